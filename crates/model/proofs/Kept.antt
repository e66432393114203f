-- Why a stored constraint tells of today's tables: every engine reached by calls is `Kept`, and then row 14 as the engine goes by it is what the
-- ledger says of the user and the flow, so that each call returns the number of the ledger's first row.
-- Assumes nothing.
use Prim.Native.Nat.{ℕ, suc, ◌+◌, ◌≤◌, ◌<◌}
use mathlib.Core.Path.{◌≡◌, refl, sym, ap, ◌∙◌}
use mathlib.Core.Bool.{Bool, true, false, ◌&&◌, true≢false}
use mathlib.Core.List.{List}
use mathlib.Core.Logic.{◌⊎◌, inl, inr, ⊎_elim}
use native.Mathlib.Decide.{dec_lt, ℕ_discrete}
use native.Mathlib.Omega.{arith}
use lib.Dec.{leb}
use lib.ListN.{length, get_or, get_or-eq_default}
use Rattle.sets.specs.Sets.{has, some, count, meeting}
use Rattle.sets.proofs.Laws.{and_both, and_all, some_of, some_cong, count_cong, count_stops, has_set_of, has_empty, has_shared, meets_none}
use Rattle.rows.specs.Rows.{there, image}
use Rattle.tables.specs.declared.Tables.{Tables}
use Rattle.tables.specs.Tables.{user_count, role_count, database_count, holds, parents_of, readers_of}
use Rattle.tables.proofs.Meaning.{overlaps_iff, parents_iff}
use Rattle.model.specs.declared.Engine.{Engine}
use Rattle.model.specs.declared.calls.Product.{Product}
use Rattle.model.specs.declared.calls.Ask.TheVariants.{Open, Conflicting, Add, Show}
use Rattle.model.specs.declared.calls.Call.{Call}
use Rattle.model.specs.declared.calls.Call.TheVariants.{Table, Session, Read, Unreadable}
use Rattle.model.specs.declared.calls.Verdict.TheVariants.{Granted}
use Rattle.model.specs.Limits.{flow_count, last_version}
use Rattle.model.specs.State.{fresh, session_at, place, role_set, roleset_at, linkable}
use Rattle.model.specs.Calls.{returned, flows_in, links, verdict, after}
use Rattle.model.specs.Ledger.{Ledger, Flow, start, flow_of, reads, reads_two_of, holds_denied, linked}
use Rattle.model.specs.Refusals.{rows, first_met, refusal}
use Rattle.model.specs.Demands.{flow_seen, seen, stored_linkable}
use Rattle.model.specs.Meaning.{flows_of, reach_of, deny_of, roles_of, Added}
use Rattle.model.proofs.Invariants.{Sized}
use Rattle.model.proofs.Ledgers.{Since, Stays, Ordered, since_step, ordered_start, ordered_step, same_rows}
use Rattle.model.proofs.Granted.{session_opened, changed_sessions, changed}
use Rattle.model.proofs.SeenRows.{bounded, and_same, holds_seen, permits_seen, length_flows, flow_seen_is, number, after_cases}
use Rattle.model.proofs.Seen.{seen_fresh, seen_after}
use Rattle.model.proofs.Meaning.{added}

-- ---- what is kept

-- role r may now read a database of the flow's reach
abbrev role_reads : Ledger → ℕ → Flow → Bool
role_reads l r flow = some database_count (λ d. flow.reach d && l.may_read r d)

-- the constraint of flow f of product p's session s: its role sets past its own are empty; and for a user whose version is at most the flow's and
-- who holds a denied role o, a role r of that user is in the role set for g exactly when r may now read a database of g's reach
pub record Right (e : Engine) (p : Product) (s f : ℕ) : Type 0 where
  pub past : (g : ℕ) → f < g → g < flow_count → roleset_at e.sessions.rolesets (session_at p s) f g ≡ 0
  pub sets : (u : ℕ) → (seen e).version u ≤ (flow_of (seen e) p s f).version
      → (o : ℕ) → o < role_count → (seen e).holds u o ≡ true → (flow_of (seen e) p s f).deny o ≡ true
      → (r : ℕ) → r < role_count → (seen e).holds u r ≡ true → (g : ℕ) → g ≤ f
      → has (roleset_at e.sessions.rolesets (session_at p s) f g) r ≡ role_reads (seen e) r (flow_of (seen e) p s g)

pub record Kept (e : Engine) : Type 0 where
  pub ordered : Ordered (seen e)
  pub right : (p : Product) (s f : ℕ) → f < length ((seen e).flows p s) → Right e p s f

no_flow : (p : Product) (s f : ℕ) → f < length ((seen fresh).flows p s) → ⊥
unfolding start
no_flow p s f l = let h : f < 0 = rw seen_fresh at l in omega arith

pub kept_fresh : Kept fresh
kept_fresh = record { ordered = rw seen_fresh ordered_start; right = λ p s f l. absurd (no_flow p s f l) }

-- ---- a flow that was there

-- nothing is asked of a user who got a version above the flow's; another user only lost roles, and the roles kept may read what they could
module _ (e x : Engine) (p : Product) (s f : ℕ) (l : f < length ((seen e).flows p s)) (fl : f < flow_count) (o : Ordered (seen e)) (h : Since (seen e) (seen x))
    (same : (g : ℕ) → g < flow_count → roleset_at x.sessions.rolesets (session_at p s) f g ≡ roleset_at e.sessions.rolesets (session_at p s) f g) where
  right_since : Right e p s f → Right x p s f
  right_since k = record {
    past = λ g m n. same g n ∙ k.past g m n;
    sets = λ u v o ol oh od r rl rh g gl. go u (rw flow at v) o ol oh (rw flow at od) r rl rh g gl (h.users u);
  }
    where
      flow : flow_of (seen x) p s f ≡ flow_of (seen e) p s f
      flow = (h.flows p s f l).1

      go : (u : ℕ) → (seen x).version u ≤ (flow_of (seen e) p s f).version
          → (o : ℕ) → o < role_count → (seen x).holds u o ≡ true → (flow_of (seen e) p s f).deny o ≡ true
          → (r : ℕ) → r < role_count → (seen x).holds u r ≡ true → (g : ℕ) → g ≤ f
          → ((seen e).system < (seen x).version u) ⊎ Stays (seen e) (seen x) u
          → has (roleset_at x.sessions.rolesets (session_at p s) f g) r ≡ role_reads (seen x) r (flow_of (seen x) p s g)
      go u v q ql qh qd r rl rh g gl (inl w) = absurd (omega (arith, o.flows p s f l))
      go u v q ql qh qd r rl rh g gl (inr w) =
          ap (λ (y : ℕ). has y r) (same g (omega arith))
          ∙ k.sets u (rw w.version at v) q ql (w.held q qh) qd r rl (w.held r rh) g gl
          ∙ some_cong database_count _ _ (λ d m. rw ((h.flows p s g (omega arith)).1, w.readers r rh d))

-- as many flows as before, and their role sets
module _ (e x : Engine) (z : Sized e) (k : Kept e) (h : Since (seen e) (seen x)) (counts : x.sessions.counts ≡ e.sessions.counts) (sets : x.sessions.rolesets ≡ e.sessions.rolesets) where
  right_same : (p : Product) (s f : ℕ) → f < length ((seen x).flows p s) → Right x p s f
  right_same p s f l =
      let m : f < flows_in e.sessions (session_at p s) = rw (length_flows x p s, counts) at l in
      let n : f < length ((seen e).flows p s) = rw (length_flows e p s) m in
      right_since e x p s f n (omega (arith, z.few (session_at p s))) k.ordered h (λ g i. rw sets) (k.right p s f n)

-- ---- a new flow

-- who has a pair in a table has a row there
holder_lt : (rows : List ℕ) (u r : ℕ) → there rows u r ≡ true → u < length rows
unfolding there
holder_lt rows u r h = go (dec_lt u (length rows))
  where
    go : Dec (u < length rows) → u < length rows
    go (yes l) = l
    go (no l) = absurd (true≢false (sym h ∙ ap (λ (x : ℕ). has x r) (get_or-eq_default rows 0 (omega arith)) ∙ has_empty r))

module _ (T : Tables) (deny : ℕ) where
  -- a role that a holder of a denied role holds too is a parent, so only reading counts
  has_role_set : (x u o r : ℕ) → u < user_count → o < role_count → holds T u o ≡ true → has deny o ≡ true → r < role_count → holds T u r ≡ true
      → has (role_set role_count user_count database_count T deny x) r ≡ some database_count (λ d. has x d && there T.readers d r)
  unfolding role_set image
  has_role_set x u o r ul ol oh od rl rh =
      has_shared role_count (readers_of role_count database_count T.readers x) (parents_of role_count user_count T.roles deny) r rl
      ∙ rw ((parents_iff role_count user_count T.roles deny r).1 (rl, (o, ol, od, (overlaps_iff user_count T.roles o r).1 (u, ul, oh, rh))))
      (sym (and_all (has (readers_of role_count database_count T.readers x) r)) ∙ has_set_of role_count _ r rl)

-- product p's session s got it
module _ (e x : Engine) (z : Sized e) (p : Product) (s root chosen : ℕ) (a : Added e x (session_at p s) root chosen) where
  n : ℕ
  n = flows_of e (session_at p s)

  -- what a ledger sees of the flows up to the new one
  its_deny : (o : ℕ) → o < role_count → has (deny_of x (session_at p s) n) o ≡ (flow_of (seen x) p s n).deny o
  unfolding n flow_seen
  its_deny o l = rw (flow_seen_is x p s n (omega (arith, a.counted))) (bounded role_count o _ l)

  its_reach : (g d : ℕ) → g ≤ n → d < database_count → has (reach_of x (session_at p s) g) d ≡ (flow_of (seen x) p s g).reach d
  unfolding n flow_seen
  its_reach g d l m = rw (flow_seen_is x p s g (omega (arith, a.counted))) (bounded database_count d _ m)

  its_roles : (g : ℕ) → g ≤ n → roles_of x (session_at p s) n g ≡ role_set role_count user_count database_count x.directory.tables (deny_of x (session_at p s) n) (reach_of x (session_at p s) g)
  unfolding n
  its_roles g l = rw a.directory (a.roles_are g l)

  roles_length : length x.directory.tables.roles ≡ user_count
  roles_length = rw a.directory z.roles

  right_new : Right x p s (flows_of e (session_at p s))
  unfolding n
  right_new = record {
    past = a.roles_past;
    sets = λ u v o ol oh od r rl rh g gl.
        let i = holds_seen x u o ol ∙ oh in
        ap (λ (y : ℕ). has y r) (its_roles g gl)
        ∙ has_role_set x.directory.tables (deny_of x (session_at p s) n) (reach_of x (session_at p s) g) u o r
        (rw (← roles_length) (holder_lt x.directory.tables.roles u o i)) ol i (its_deny o ol ∙ od) rl (holds_seen x u r rl ∙ rh)
        ∙ some_cong database_count _ _ (λ d m. and_same (its_reach g d gl m) (permits_seen x r d rl));
  }

-- the session of this number got it; what is kept of a product's session goes by its number alone
module _ (e x : Engine) (z : Sized e) (s root chosen : ℕ) (a : Added e x s root chosen) where
  -- a flow that is there now is the new one, or was there before
  new_or_old : (t f : ℕ) → f < flows_of x t → ((t ≡ s) × (f ≡ flows_of e s)) ⊎ ((f < flows_of e t) × ((t ≡ s) → f ≡ flows_of e s → ⊥))
  new_or_old t f l = go (ℕ_discrete t s) (ℕ_discrete f (flows_of e s))
    where
      go : Dec (t ≡ s) → Dec (f ≡ flows_of e s) → ((t ≡ s) × (f ≡ flows_of e s)) ⊎ ((f < flows_of e t) × ((t ≡ s) → f ≡ flows_of e s → ⊥))
      go (yes q) (yes h) = inl (q, h)
      go (yes q) (no h) =
          let v : f < flows_of e s + 1 = rw (q, a.counted) at l in
          inr (rw q (omega arith), λ p. h)
      go (no q) h = inr (rw (a.elsewhere t q) at l, λ p r. q p)

  right_put : Kept e → Since (seen e) (seen x) → (q : Product) (t f : ℕ) → f < length ((seen x).flows q t) → Right x q t f
  right_put k h q t f l =
      ⊎_elim
      (λ (w : (session_at q t ≡ s) × (f ≡ flows_of e s)).
      let b : Added e x (session_at q t) root chosen = rw w.0 a in
      let i : f ≡ flows_of e (session_at q t) = rw w.0 w.1 in
      rw i (right_new e x z q t root chosen b))
      (λ (w : (f < flows_of e (session_at q t)) × ((session_at q t ≡ s) → f ≡ flows_of e s → ⊥)).
      let m : f < length ((seen e).flows q t) = rw (length_flows e q t) w.0 in
      let i : f < flow_count = omega (arith, z.few (session_at q t)) in
      right_since e x q t f m i k.ordered h (a.older (session_at q t) f i w.1).roles (k.right q t f m))
      (new_or_old (session_at q t) f (rw (length_flows x q t) at l))

-- ---- every call keeps it

right_changed : (e : Engine) (c : Call) → Sized e → Kept e → Since (seen e) (seen (changed e c)) → verdict e c ≡ Granted
    → (p : Product) (s f : ℕ) → f < length ((seen (changed e c)).flows p s) → Right (changed e c) p s f
unfolding changed changed_sessions session_opened
right_changed e (Table c) z k h v = right_same e _ z k h refl refl
right_changed e (Session p s Open) z k h v = right_same e _ z k h refl refl
right_changed e (Session p s (Conflicting root)) z k h v = right_same e _ z k h refl refl
right_changed e (Session p s (Add root chosen)) z k h v = right_put e _ z (session_at p s) root chosen (added e p s root chosen z v) k h
right_changed e (Session p s (Show f)) z k h v = right_same e _ z k h refl refl
right_changed e (Read p u s f d) z k h v = k.right
right_changed e Unreadable z k h v = k.right

pub kept_after : (e : Engine) (c : Call) → Sized e → Kept e → Kept (after e c)
kept_after e c z k =
    after_cases (λ x. Since (seen e) (seen x) → Ordered (seen x) → Kept x) e c (λ h o. k) (λ v h o. record { ordered = o; right = right_changed e c z k h v })
    (rw (seen_after e c z) (since_step (seen e) c k.ordered)) (rw (seen_after e c z) (ordered_step (seen e) c k.ordered))

-- ---- row 14

module _ (e : Engine) (p : Product) (u s f : ℕ) (k : Kept e) (fl : f < flow_count) (l : f < length ((seen e).flows p s)) (v : (seen e).version u ≤ (flow_of (seen e) p s f).version) where
  held : ℕ
  held = get_or e.directory.tables.roles u 0

  is_there : f < flows_in e.sessions (session_at p s)
  is_there = rw (length_flows e p s) at l

  denied : meeting role_count held (get_or e.sessions.denies (place (session_at p s) f) 0) ≡ holds_denied (seen e) u (flow_of (seen e) p s f)
  unfolding held holds_denied meeting flow_seen there
  denied = rw (flow_seen_is e p s f is_there) (some_cong role_count _ _ (λ r m. and_same (holds_seen e u r m) (bounded role_count r _ m)))

  -- where the user holds a denied role, the user's roles meet the role set of g exactly when the user may statically read g
  meets_stored : holds_denied (seen e) u (flow_of (seen e) p s f) ≡ true → (g : ℕ) → g ≤ f → meeting role_count held (roleset_at e.sessions.rolesets (session_at p s) f g) ≡ reads (seen e) u (flow_of (seen e) p s g)
  unfolding held holds_denied meeting reads there
  meets_stored h g gl =
      let o = some_of role_count _ h in
      let b = and_both ((seen e).holds u o.0) ((flow_of (seen e) p s f).deny o.0) o.2 in
      some_cong role_count _ _ (λ r m. ap (λ (t : Bool). t && has (roleset_at e.sessions.rolesets (session_at p s) f g) r) (holds_seen e u r m) ∙ same r m o.0 o.1 b.0 b.1 ((seen e).holds u r) refl)
    where
      same : (r : ℕ) → r < role_count → (o : ℕ) → o < role_count → (seen e).holds u o ≡ true → (flow_of (seen e) p s f).deny o ≡ true → (b : Bool) → (seen e).holds u r ≡ b
          → (b && has (roleset_at e.sessions.rolesets (session_at p s) f g) r) ≡ (b && role_reads (seen e) r (flow_of (seen e) p s g))
      same r rl o ol oh od true rh = (k.right p s f l).sets u v o ol oh od r rl rh g gl
      same r rl o ol oh od false rh = refl

  -- the stored constraint says what the ledger says
  pub stored_linked : stored_linkable e p u s f ≡ linked (seen e) p u s f
  unfolding stored_linkable links linkable linked reads_two_of held
  stored_linked = rw denied (go (holds_denied (seen e) u (flow_of (seen e) p s f)) refl)
    where
      meets : ℕ → Bool
      meets g = meeting role_count held (roleset_at e.sessions.rolesets (session_at p s) f g)

      may : ℕ → Bool
      may g = reads (seen e) u (flow_of (seen e) p s g)

      go : (b : Bool) → holds_denied (seen e) u (flow_of (seen e) p s f) ≡ b → (b && leb 2 (count flow_count meets)) ≡ (b && leb 2 (count (suc f) may))
      go true h =
          ap (leb 2)
          (count_stops (suc f) flow_count meets fl (λ g m n. ap (meeting role_count held) ((k.right p s f l).past g m n) ∙ meets_none role_count held)
          ∙ count_cong (suc f) meets may (λ g m. meets_stored h g (omega arith)))
      go false h = refl

-- ---- the number returned is that of the ledger's own rows

pub number_told : (e : Engine) (c : Call) → Kept e → returned (verdict e c) ≡ refusal (seen e) c
unfolding refusal rows
number_told e c k = number e c ∙ go c
  where
    go : (x : Call) → first_met (rows last_version (seen e) (stored_linkable e) x) ≡ first_met (rows last_version (seen e) (linked (seen e)) x)
    go (Table a) = refl
    go (Session p s a) = refl
    go (Read p u s f d) = same_rows (seen e) (stored_linkable e) (linked (seen e)) p u s f d (stored_linked e p u s f k)
    go Unreadable = refl
