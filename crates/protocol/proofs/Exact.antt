-- What the program writes is what the specification says over the ledger: for every input the one output that it allows.
-- Assumes nothing.
use Prim.Native.Nat.{ℕ, zero, suc, ◌+◌, ◌^◌, ◌≤◌, ◌<◌}
use mathlib.Core.Path.{◌≡◌, refl, sym, ap, ap₂, ◌∙◌, subst}
use mathlib.Core.Bool.{Bool, false, cond, ◌&&◌}
use mathlib.Core.List.{List, [], ◌∷◌, ◌++◌}
use mathlib.Core.Logic.{◌⊎◌, inl, inr, ⊎_elim, ◌≢◌}
use native.Mathlib.Decide.{ℕ_discrete, dec_lt}
use native.Mathlib.Omega.{arith}
use lib.Dec.{eqb}
use lib.ListN.{length, get_or, replicate}
use lib.Seq.{get_or-set_same, get_or-set_other}
use borrow.Author.Tests.{lt-ltb, le-ltb, eqb-true, eq-eqb}
use Rattle.sets.specs.Sets.{has, set_of, count, joined, shared, size_of}
use Rattle.sets.proofs.Laws.{and_both, some_cong, count_cong, set_of_lt, set_of_cong, has_set_of, is_set_of}
use Rattle.rows.specs.Rows.{image}
use Rattle.rows.specs.Reach.{reach}
use Rattle.tables.specs.Tables.{user_count, role_count, database_count, overlaps, parents_of}
use Rattle.model.specs.declared.Sessions.{Sessions}
use Rattle.model.specs.declared.Engine.{Engine}
use Rattle.model.specs.declared.calls.Product.{Product}
use Rattle.model.specs.declared.calls.Ask.TheVariants.{Open, Conflicting, Add, Show}
use Rattle.model.specs.declared.calls.Call.{Call}
use Rattle.model.specs.declared.calls.Call.TheVariants.{Table, Session, Read, Unreadable}
use Rattle.model.specs.declared.calls.Verdict.{Verdict}
use Rattle.model.specs.declared.calls.Verdict.TheVariants.{Granted, Refused}
use Rattle.model.specs.Limits.{session_count, flow_count}
use Rattle.model.specs.State.{all_sessions, session_at, place_count}
use Rattle.model.specs.State.{fresh, engine_of, filled, place, reach_with, conflicts, role_set, roleset_at, deny_before}
use Rattle.model.specs.Calls.{number_of, returned, verdict_of, flows_in, conflicts_in, with_flow, step, verdict, after, answer, constraint_at}
use Rattle.model.specs.Ledger.{Ledger, same, flow_of, reach_of, is_conflicting}
use Rattle.model.specs.Refusals.{refusal, accepts, new_flow, taken, ledger_step}
use Rattle.model.specs.Demands.{seen, flow_seen}
use Rattle.model.proofs.Laws.{same_is, session_within, session_one, get_d_same, get_d_filled, places, place_lt, roleset_put, roleset_stays}
use Rattle.model.proofs.Invariants.{Sized}
use Rattle.model.proofs.Granted.{changed, changed_sessions, session_opened, accepted, ask_answer}
use Rattle.model.proofs.SeenRows.{bounded, holds_seen, permits_seen, reach_seen, length_flows, flow_seen_is, conflicts_seen, granted_after, granted_answer, after_cases, within_add}
use Rattle.model.proofs.Seen.{demand1, sized_fresh, sized_after, seen_fresh, seen_after, refused_number}
use Rattle.model.proofs.Kept.{Kept, kept_fresh, kept_after, number_told}
use Rattle.protocol.specs.Widths.{version_digits, set_digits}
use Rattle.protocol.specs.Digits.{hex}
use Rattle.protocol.specs.Lines.{call_of, role_sets, values, line_of}
use Rattle.protocol.specs.Run.{split, last_call, calls_of, shown_in, reply, replies, run}
use Rattle.protocol.specs.Specification.{in_digits, M, Feedless, Input, Book, is_parent, in_role_set, sets_now, next, sets_of, told, answer_line, answers, blank}
use Rattle.protocol.specs.Specification.{none as feedless_none, byte as feedless_byte, ended as input_ended, line as input_line, unended as input_unended}
use Rattle.protocol.specs.Demands.{Exact}
use Rattle.protocol.proofs.Laws.{NoFeed, split_line, split_rest}
use Rattle.protocol.proofs.Laws.{none as no_none, byte as no_byte, show_within}
use Rattle.protocol.proofs.Spelling.{hex_digits, bits_set}
use Rattle.protocol.proofs.Saying.{says, says_one}

-- ---- role sets

-- the deny set of a flow, and its reach; a session has its number among those of both products
abbrev deny_at : Sessions → ℕ → ℕ → ℕ
deny_at S s f = get_or S.denies (place s f) 0

abbrev reach_at : Sessions → ℕ → ℕ → ℕ
reach_at S s f = get_or S.reaches (place s f) 0

-- the role set for flow g that goes by flow f's deny set is the ledger's
role_set_seen : (e : Engine) (p : Product) (s f g : ℕ) → f < flows_in e.sessions (session_at p s) → g < flows_in e.sessions (session_at p s)
    → role_set role_count user_count database_count e.directory.tables (deny_at e.sessions (session_at p s) f) (reach_at e.sessions (session_at p s) g)
    ≡ set_of role_count (in_role_set (seen e) (flow_of (seen e) p s f) (flow_of (seen e) p s g))
unfolding role_set shared parents_of image overlaps in_role_set is_parent flow_seen
role_set_seen e p s f g l m =
    rw (flow_seen_is e p s f l, flow_seen_is e p s g m)
    (set_of_cong role_count _ _
    (λ r k. ap₂ (λ (x y : Bool). x && y)
    (has_set_of role_count _ r k ∙ some_cong database_count _ _ (λ d j. ap₂ (λ (x y : Bool). x && y) (bounded database_count d _ j) (permits_seen e r d k)))
    (has_set_of role_count _ r k
    ∙ some_cong role_count _ _ (λ o j. ap₂ (λ (x y : Bool). x && y) (bounded role_count o _ j) (some_cong user_count _ _ (λ u i. ap₂ (λ (x y : Bool). x && y) (holds_seen e u o j) (holds_seen e u r k)))))))

-- ---- each stored constraint is the ledger's, with the role sets beside it

record Shown (S : Sessions) (sets : Product → ℕ → ℕ → ℕ → ℕ → Bool) : Type 0 where
  deny : (s f : ℕ) → f < flows_in S s → deny_at S s f < 2 ^ role_count
  roles : (p : Product) (s f : ℕ) → f < flows_in S (session_at p s) → (g : ℕ) → g ≤ f → roleset_at S.rolesets (session_at p s) f g ≡ set_of role_count (sets p s f g)

abbrev book_of : Engine → (Product → ℕ → ℕ → ℕ → ℕ → Bool) → Book
book_of e sets = record { ledger = seen e; sets = sets }

module _ (e : Engine) (sets : Product → ℕ → ℕ → ℕ → ℕ → Bool) (c : Call) where
  -- a flow that was there keeps its role sets
  kept_sets : (p : Product) (s f g : ℕ) → f < flows_in e.sessions (session_at p s) → (next (book_of e sets) c).sets p s f g ≡ sets p s f g
  unfolding next sets_now
  kept_sets p s f g l = rw (lt-ltb f (length ((seen e).flows p s)) (rw (length_flows e p s) l))

  -- and a new one gets them by the ledger now
  new_sets : (p : Product) (s f g : ℕ) → flows_in e.sessions (session_at p s) ≤ f → f < length ((ledger_step (seen e) c).flows p s)
      → (next (book_of e sets) c).sets p s f g ≡ in_role_set (ledger_step (seen e) c) (flow_of (ledger_step (seen e) c) p s f) (flow_of (ledger_step (seen e) c) p s g)
  unfolding next sets_now
  new_sets p s f g l m = rw (le-ltb f (length ((seen e).flows p s)) (rw (length_flows e p s) l), lt-ltb f (length ((ledger_step (seen e) c).flows p s)) m)

  -- where counts, deny sets and role sets stay, so does what is shown
  shown_stays : (S : Sessions) → S.counts ≡ e.sessions.counts → S.denies ≡ e.sessions.denies → S.rolesets ≡ e.sessions.rolesets
      → Shown e.sessions sets → Shown S (next (book_of e sets) c).sets
  shown_stays S x y w h = record {
    deny = λ s f l. rw y (h.deny s f (rw x at l));
    roles = λ p s f l g m. rw w (h.roles p s f (rw x at l) g m ∙ ap (set_of role_count) (sym (kept_sets p s f g (rw x at l))));
  }

-- ---- an accepted addition

module _ (e : Engine) (sets : Product → ℕ → ℕ → ℕ → ℕ → Bool) (z : Sized e) (h : Shown e.sessions sets) (p : Product) (s root chosen : ℕ) (v : verdict e (Session p s (Add root chosen)) ≡ Granted) where
  call : Call
  call = Session p s (Add root chosen)

  -- the session's number
  abbrev own : ℕ
  own = session_at p s

  n : ℕ
  n = flows_in e.sessions own

  new : ℕ
  new = reach database_count e.directory.tables.forwards root

  deny : ℕ
  deny = joined role_count (deny_before e.sessions.denies own n) chosen

  put : Sessions
  put = with_flow e.directory e.sessions own root new deny

  limit : s < session_count
  limit = (within_add e p s root chosen v).0

  inside : own < all_sessions
  inside = session_within p s limit

  -- no other session has its number
  one_session : (q : Product) (t : ℕ) → session_at q t ≡ own → (q ≡ p) × (t ≡ s)
  one_session q t x =
      let w = and_both (same q p) (eqb t s) (sym (session_one q p t s limit) ∙ eq-eqb (session_at q t) own x) in
      (same_is q p w.0, eqb-true t s w.1)

  room : n < flow_count
  unfolding n
  room = (within_add e p s root chosen v).4

  stored : after e call ≡ engine_of e.directory put
  unfolding call put new deny n
  stored = (within_add e p s root chosen v).5

  counted : flows_in put own ≡ n + 1
  unfolding put with_flow n
  counted = get_or-set_same e.sessions.counts own (n + 1) 0 (omega (arith, z.counts, inside))

  elsewhere : (t : ℕ) → t ≢ own → flows_in put t ≡ flows_in e.sessions t
  unfolding put with_flow n
  elsewhere t d = get_or-set_other e.sessions.counts own t (n + 1) 0 d

  -- a flow that is there now is the new one, or was there before
  new_or_old : (t f : ℕ) → f < flows_in put t → ((t ≡ own) × (f ≡ n)) ⊎ ((f < flows_in e.sessions t) × (t ≡ own → f ≡ n → ⊥))
  unfolding n
  new_or_old t f l = go (ℕ_discrete t own) (ℕ_discrete f n)
    where
      go : Dec (t ≡ own) → Dec (f ≡ n) → ((t ≡ own) × (f ≡ n)) ⊎ ((f < flows_in e.sessions t) × (t ≡ own → f ≡ n → ⊥))
      go (yes q) (yes w) = inl (q, w)
      go (yes q) (no w) = let k : f < n + 1 = rw (q, counted) at l in inr (rw q (omega arith), λ a b. w b)
      go (no q) w = inr (rw (elsewhere t q) at l, λ a b. q a)

  at_new : place own n < place_count
  at_new = place_lt own n inside room

  deny_new : deny_at put own n ≡ deny
  unfolding put with_flow n
  deny_new = get_or-set_same e.sessions.denies (place own n) deny 0 (omega (arith, z.denies, at_new))

  reach_new : reach_at put own n ≡ new
  unfolding put with_flow n
  reach_new = get_or-set_same e.sessions.reaches (place own n) new 0 (omega (arith, z.reaches, at_new))

  module _ (t f : ℕ) (l : f < flows_in e.sessions t) (o : t ≡ own → f ≡ n → ⊥) where
    apart : place t f ≡ place own n → ⊥
    apart = places t f own n (omega (arith, z.few t)) room o

    deny_old : deny_at put t f ≡ deny_at e.sessions t f
    unfolding put with_flow n
    deny_old = get_or-set_other e.sessions.denies (place own n) (place t f) deny 0 apart

    reach_old : reach_at put t f ≡ reach_at e.sessions t f
    unfolding put with_flow n
    reach_old = get_or-set_other e.sessions.reaches (place own n) (place t f) new 0 apart

    roles_old : (g : ℕ) → g ≤ f → roleset_at put.rolesets t f g ≡ roleset_at e.sessions.rolesets t f g
    unfolding put with_flow n
    roles_old g m = roleset_stays e.sessions.rolesets own n _ t f g (omega (arith, z.few t)) apart

  -- the reach that the addition went by is the flow's
  reach_with_is : (g : ℕ) → g ≤ n → reach_with e.sessions.reaches own n new g ≡ reach_at put own g
  unfolding reach_with n
  reach_with_is g l = go (dec_lt g n)
    where
      go : Dec (g < n) → reach_with e.sessions.reaches own n new g ≡ reach_at put own g
      go (yes k) = rw (lt-ltb g n k) (sym (reach_old own g k (λ a b. omega arith)))
      go (no k) =
          let q : g ≡ n = omega arith in
          rw (q, le-ltb n n (omega arith), eq-eqb n n refl) (sym reach_new)

  was : flows_in e.sessions own ≤ n
  unfolding n
  was = omega arith

  written : (g : ℕ) → g ≤ n → roleset_at put.rolesets own n g ≡ role_set role_count user_count database_count e.directory.tables deny (reach_with e.sessions.reaches own n new g)
  unfolding put with_flow n
  written g l = roleset_put e.sessions.rolesets own n _ g z.rolesets inside room (omega (arith, room))

  now : seen (engine_of e.directory put) ≡ ledger_step (seen e) call
  now = ap seen (sym stored) ∙ seen_after e call z

  new_roles : (g : ℕ) → g ≤ n → roleset_at put.rolesets own n g ≡ set_of role_count ((next (book_of e sets) call).sets p s n g)
  new_roles g l =
      written g l
      ∙ ap₂ (role_set role_count user_count database_count e.directory.tables) (sym deny_new) (reach_with_is g l)
      ∙ role_set_seen (engine_of e.directory put) p s n g (rw counted (omega arith)) (rw counted (omega arith))
      ∙ ap (λ (m : Ledger). set_of role_count (in_role_set m (flow_of m p s n) (flow_of m p s g))) now
      ∙ ap (set_of role_count) (sym (new_sets e sets call p s n g was (rw (← now, length_flows (engine_of e.directory put) p s, counted) (omega arith))))

  new_deny : deny < 2 ^ role_count
  unfolding deny joined
  new_deny = set_of_lt role_count _

  shown_put : Shown put (next (book_of e sets) call).sets
  shown_put = record {
    deny = λ t f l.
        ⊎_elim (λ q. rw (q.0, q.1, deny_new) new_deny)
        (λ q. rw (deny_old t f q.0 q.1) (h.deny t f q.0)) (new_or_old t f l);
    roles = λ q t f l g m.
        ⊎_elim (λ x. let w = one_session q t x.0 in rw (w.0, w.1, x.1) (new_roles g (omega (arith, x.1))))
        (λ x. roles_old (session_at q t) f x.0 x.1 g m ∙ h.roles q t f x.0 g m ∙ ap (set_of role_count) (sym (kept_sets e sets call q t f g x.0))) (new_or_old (session_at q t) f l);
  }

  shown_add : Shown (changed e (Session p s (Add root chosen))).sessions (next (book_of e sets) (Session p s (Add root chosen))).sets
  unfolding call
  shown_add = rw (sym (granted_after e (Session p s (Add root chosen)) v) ∙ stored) shown_put

shown_changed : (e : Engine) (sets : Product → ℕ → ℕ → ℕ → ℕ → Bool) (c : Call) → Sized e → Shown e.sessions sets → verdict e c ≡ Granted → Shown (changed e c).sessions (next (book_of e sets) c).sets
unfolding changed changed_sessions session_opened
shown_changed e sets (Table c) z h v = shown_stays e sets (Table c) _ refl refl refl h
shown_changed e sets (Session p s Open) z h v = shown_stays e sets (Session p s Open) _ refl refl refl h
shown_changed e sets (Session p s (Conflicting d)) z h v = shown_stays e sets (Session p s (Conflicting d)) _ refl refl refl h
shown_changed e sets (Session p s (Add d m)) z h v = shown_add e sets z h p s d m v
shown_changed e sets (Session p s (Show f)) z h v = shown_stays e sets (Session p s (Show f)) _ refl refl refl h
shown_changed e sets (Read p u s f d) z h v = shown_stays e sets (Read p u s f d) _ refl refl refl h
shown_changed e sets Unreadable z h v = shown_stays e sets Unreadable _ refl refl refl h

shown_after : (e : Engine) (sets : Product → ℕ → ℕ → ℕ → ℕ → Bool) (c : Call) → Sized e → Shown e.sessions sets → Shown (after e c).sessions (next (book_of e sets) c).sets
shown_after e sets c z h = after_cases (λ d. Shown d.sessions (next (book_of e sets) c).sets) e c (shown_stays e sets c e.sessions refl refl refl h) (shown_changed e sets c z h)

-- ---- the values of an accepted call

hex_set : (x : ℕ) (p : ℕ → Bool) → x < 2 ^ role_count → ((r : ℕ) → r < role_count → has x r ≡ p r) → hex set_digits x ≡ M p
unfolding M
hex_set x p l f = hex_digits set_digits x ∙ ap (in_digits set_digits) (is_set_of role_count x p l f ∙ sym (bits_set role_count p))

role_sets_told : (n : ℕ) (xs : List ℕ) (sets : ℕ → ℕ → Bool) → ((g : ℕ) → g < n → get_or xs g 0 ≡ set_of role_count (sets g)) → role_sets n xs ≡ sets_of n sets
unfolding role_sets sets_of M
role_sets_told zero xs sets f = refl
role_sets_told (suc n) xs sets f =
    ap₂ (λ (a b : List ℕ). a ++ b) (role_sets_told n xs sets (λ g l. f g (omega arith)))
    (hex_digits set_digits (get_or xs n 0) ∙ ap (in_digits set_digits) (f n (omega arith) ∙ sym (bits_set role_count (sets n))))

-- a flow that is shown is there
shown_there : (e : Engine) (p : Product) (s f : ℕ) → verdict e (Session p s (Show f)) ≡ Granted → f < flows_in e.sessions (session_at p s)
shown_there e p s f h = (show_within e p s f h).2

-- the ledger takes an accepted call
step_taken : (e : Engine) (c : Call) → Kept e → verdict e c ≡ Granted → ledger_step (seen e) c ≡ taken (seen e) c
unfolding ledger_step accepts returned
step_taken e c k h = rw (sym (number_told e c k) ∙ ap returned h)

-- the system version after an accepted call
version_told : (e : Engine) (c : Call) → Sized e → Kept e → verdict e c ≡ Granted → (changed e c).directory.version ≡ (taken (seen e) c).system
unfolding seen
version_told e c z k h =
    ap (λ (d : Engine). d.directory.version) (sym (granted_after e c h))
    ∙ ap (λ (l : Ledger). l.system) (seen_after e c z ∙ step_taken e c k h)

system_seen : (e : Engine) → e.directory.version ≡ (seen e).system
unfolding seen
system_seen e = refl

add_told : (e : Engine) (p : Product) (s root : ℕ)
    → hex 2 (flows_in e.sessions (session_at p s)) ++ (hex 2 (size_of database_count (reach database_count e.directory.tables.forwards root)) ++ hex version_digits e.directory.version)
    ≡ in_digits 2 (length ((seen e).flows p s)) ++ (in_digits 2 (count database_count (reach_of (seen e) root)) ++ in_digits version_digits (seen e).system)
unfolding size_of
add_told e p s root =
    ap₂ (λ (a b : List ℕ). a ++ b) (hex_digits 2 _ ∙ ap (in_digits 2) (sym (length_flows e p s)))
    (ap₂ (λ (a b : List ℕ). a ++ b) (hex_digits 2 _ ∙ ap (in_digits 2) (count_cong database_count _ _ (reach_seen e root))) (hex_digits version_digits _ ∙ ap (in_digits version_digits) (system_seen e)))

conflicts_told : (e : Engine) (p : Product) (s root : ℕ)
    → hex set_digits (conflicts_in e.directory.tables e.sessions (session_at p s) (reach database_count e.directory.tables.forwards root)) ≡ M (is_conflicting (seen e) p s (new_flow (seen e) p s root 0))
unfolding new_flow conflicts_in conflicts
conflicts_told e p s root = hex_set _ _ (set_of_lt role_count _) (conflicts_seen e p s root (new_flow (seen e) p s root 0) (reach_seen e root))

show_told : (e : Engine) (sets : Product → ℕ → ℕ → ℕ → ℕ → Bool) (p : Product) (s f : ℕ) → Shown e.sessions sets → f < flows_in e.sessions (session_at p s) → f < flow_count
    → hex version_digits (constraint_at e.sessions (session_at p s) f).version ++ (hex set_digits (constraint_at e.sessions (session_at p s) f).deny ++ role_sets (suc f) (constraint_at e.sessions (session_at p s) f).roles)
    ≡ in_digits version_digits (flow_of (seen e) p s f).version ++ (M (flow_of (seen e) p s f).deny ++ sets_of (suc f) (sets p s f))
unfolding flow_seen constraint_at
show_told e sets p s f h l m =
    rw (flow_seen_is e p s f l)
    (ap₂ (λ (a b : List ℕ). a ++ b) (hex_digits version_digits (get_or e.sessions.versions (place (session_at p s) f) 0))
    (ap₂ (λ (a b : List ℕ). a ++ b) (hex_set (deny_at e.sessions (session_at p s) f) _ (h.deny (session_at p s) f l) (λ r k. bounded role_count r (has (deny_at e.sessions (session_at p s) f) r) k))
    (role_sets_told (suc f) _ (sets p s f) (λ g k. kept g (omega (arith, m)) ∙ h.roles p s f l g (omega arith)))))
  where
    kept : (g : ℕ) → g < flow_count → get_or (filled 0 (roleset_at e.sessions.rolesets (session_at p s) f) flow_count (replicate flow_count 0)) g 0 ≡ roleset_at e.sessions.rolesets (session_at p s) f g
    kept g k =
        let q : 0 + g ≡ g = omega arith in
        rw q at (get_d_filled 0 (roleset_at e.sessions.rolesets (session_at p s) f) flow_count (replicate flow_count 0) g (omega arith) k)

never : (e : Engine) → verdict e Unreadable ≡ Granted → ⊥
unfolding verdict answer step verdict_of
never e h = let z : ◌≡◌ {A = ℕ} 0 1 = cc in omega arith

module _ (e : Engine) (sets : Product → ℕ → ℕ → ℕ → ℕ → Bool) (z : Sized e) (k : Kept e) (h : Shown e.sessions sets) where
  values_told : (c : Call) → verdict e c ≡ Granted → (returned (verdict_of (accepted e c)) ≡ 0) × (values (accepted e c) (shown_in e.sessions (accepted e c)) ≡ told (book_of e sets) c)
  unfolding returned verdict_of values changed accepted ask_answer shown_in told
  values_told (Table c) v = (refl, hex_digits version_digits _ ∙ ap (in_digits version_digits) (version_told e (Table c) z k v))
  values_told (Session p s Open) v = (refl, hex_digits version_digits _ ∙ ap (in_digits version_digits) (version_told e (Session p s Open) z k v))
  values_told (Session p s (Conflicting d)) v = (refl, conflicts_told e p s d)
  values_told (Session p s (Add d m)) v = (refl, add_told e p s d)
  values_told (Session p s (Show f)) v = (refl, show_told e sets p s f h (shown_there e p s f v) (show_within e p s f v).1)
  values_told (Read p u s f d) v = (refl, refl)
  values_told Unreadable v = absurd (never e v)

  -- the answer line of a call
  line_told : (c : Call) → reply e c ≡ answer_line (book_of e sets) c
  unfolding reply line_of answer_line accepts returned verdict_of values
  line_told c = go (verdict e c) refl (number_told e c k)
    where
      go : (v : Verdict) → verdict e c ≡ v → returned (verdict e c) ≡ refusal (seen e) c
          → hex 2 (returned (verdict_of (answer e c))) ++ (values (answer e c) (shown_in e.sessions (answer e c)) ++ (10 ∷ []))
          ≡ in_digits 2 (refusal (seen e) c) ++ (cond (eqb (refusal (seen e) c) 0) (told (book_of e sets) c) [] ++ (10 ∷ []))
      go Granted w q =
          let t = values_told c w in
          rw (granted_answer e c w, t.0, t.1, sym q ∙ ap returned w, hex_digits 2 0)
      go (Refused why) w q =
          rw (((demand1 e c).refused why w).0, sym q ∙ ap returned w, refused_number why, hex_digits 2 (number_of why))

-- ---- an engine agrees with a book: three facts, which are all that the rest asks of the engine

pub record Agrees (e : Engine) (b : Book) : Type 0 where
  sized : Sized e
  kept : Kept e
  ledger : seen e ≡ b.ledger
  shown : Shown e.sessions b.sets

same_book : {e : Engine} {b : Book} → Agrees e b → book_of e b.sets ≡ b
same_book {e} {b} h = ap (λ (l : Ledger). record { ledger = l; sets = b.sets }) h.ledger

shown_fresh : Shown fresh.sessions (λ p s f g r. false)
unfolding fresh
shown_fresh = record { deny = λ s f l. absurd (no_flow s f l); roles = λ p s f l g m. absurd (no_flow (session_at p s) f l) }
  where
    no_flow : (s f : ℕ) → f < flows_in fresh.sessions s → ⊥
    no_flow s f l = omega (arith, get_d_same {A = ℕ} all_sessions s 0)

pub agrees_fresh : Agrees fresh blank
unfolding blank
agrees_fresh = record { sized = sized_fresh; kept = kept_fresh; ledger = seen_fresh; shown = shown_fresh }

pub agrees_line : (e : Engine) (b : Book) (c : Call) → Agrees e b → reply e c ≡ answer_line b c
agrees_line e b c h = line_told e b.sets h.sized h.kept h.shown c ∙ ap (λ (x : Book). answer_line x c) (same_book h)

pub agrees_next : (e : Engine) (b : Book) (c : Call) → Agrees e b → Agrees (after e c) (next b c)
unfolding next
agrees_next e b c h = record {
  sized = sized_after e c h.sized;
  kept = kept_after e c h.sized h.kept;
  ledger = seen_after e c h.sized ∙ ap (λ (l : Ledger). ledger_step l c) h.ledger;
  shown = subst (λ (x : Book). Shown (after e c).sessions (next x c).sets) (same_book h) (shown_after e b.sets c h.sized h.shown);
}

-- ---- call after call

told_all : (e : Engine) (b : Book) (cs : List Call) → Agrees e b → replies e cs ≡ answers b cs
unfolding replies answers
told_all e b [] h = refl
told_all e b (c ∷ cs) h = ap₂ (λ (x y : List ℕ). x ++ y) (agrees_line e b c h) (told_all (after e c) (next b c) cs (agrees_next e b c h))

-- ---- an input says the calls that it is read as, and no others

pub no_feed : {line : List ℕ} → Feedless line → NoFeed line
no_feed feedless_none = no_none
no_feed (feedless_byte n h) = no_byte n (no_feed h)

calls_line : (bytes rest : List ℕ) → Feedless bytes → calls_of (bytes ++ (10 ∷ rest)) ≡ call_of bytes ∷ calls_of rest
unfolding calls_of
calls_line bytes rest n = rw (split_line bytes rest (no_feed n))

calls_rest : (rest : List ℕ) → Feedless rest → rest ≢ [] → calls_of rest ≡ Unreadable ∷ []
unfolding calls_of last_call
calls_rest [] n h = absurd (h refl)
calls_rest (b ∷ bs) n h = rw (split_rest (b ∷ bs) (no_feed n))

calls_none : calls_of [] ≡ []
unfolding calls_of split last_call
calls_none = refl

pub input_one : {input : List ℕ} {cs : List Call} → Input input cs → calls_of input ≡ cs
input_one input_ended = calls_none
input_one (input_line bytes c rest cs n s i) = calls_line bytes rest n ∙ ap₂ (λ (d : Call) (ds : List Call). d ∷ ds) (says_one s) (input_one i)
input_one (input_unended rest n h) = calls_rest rest n h

-- a byte before an input goes before its first line
with_byte : (b : ℕ) {bs : List ℕ} {cs : List Call} → b ≢ 10 → Input bs cs → (ds : List Call) × Input (b ∷ bs) ds
with_byte b n input_ended = (Unreadable ∷ [], input_unended (b ∷ []) (feedless_byte n feedless_none) (λ e. let z : ◌≡◌ {A = ℕ} 0 1 = cc in omega arith))
with_byte b n (input_line bytes c rest cs f s i) = (call_of (b ∷ bytes) ∷ cs, input_line (b ∷ bytes) (call_of (b ∷ bytes)) rest cs (feedless_byte n f) (says (b ∷ bytes)) i)
with_byte b n (input_unended rest f h) = (Unreadable ∷ [], input_unended (b ∷ rest) (feedless_byte n f) (λ e. let z : ◌≡◌ {A = ℕ} 0 1 = cc in omega arith))

pub input_some : (input : List ℕ) → (cs : List Call) × Input input cs
input_some [] = ([], input_ended)
input_some (b ∷ bs) = go (ℕ_discrete b 10) (input_some bs)
  where
    go : Dec (b ≡ 10) → (cs : List Call) × Input bs cs → (ds : List Call) × Input (b ∷ bs) ds
    go (yes e) r = rw e (call_of [] ∷ r.0, input_line [] (call_of []) bs r.0 feedless_none (says []) r.1)
    go (no n) r = with_byte b n r.1

-- ---- the whole

-- for every input, the model allows one output, and the program writes it
pub exact : (input : List ℕ) → Exact input
unfolding run
exact input = record {
  allowed = let r = input_some input in (r.0, r.1, told_all fresh blank (calls_of input) agrees_fresh ∙ ap (answers blank) (input_one r.1));
  only = λ output w. w.2 ∙ ap (answers blank) (sym (input_one w.1)) ∙ sym (told_all fresh blank (calls_of input) agrees_fresh);
}
