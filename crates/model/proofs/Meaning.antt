-- What the engine's definitions mean, for all sizes, every engine and every list of calls.
-- Assumes nothing.
use Prim.Native.Nat.{ℕ, zero, suc, ◌+◌, ◌≤◌, ◌<◌}
use mathlib.Core.Path.{◌≡◌, refl, sym, ap, ◌∙◌}
use mathlib.Core.Bool.{Bool, true, false, cond, not, ◌&&◌, ◌||◌, true≢false}
use mathlib.Core.List.{List, [], ◌∷◌}
use mathlib.Core.Logic.{◌⊎◌, inl, inr, ⊎_elim, ◌↔◌, ◌≢◌}
use native.Mathlib.Decide.{dec_lt}
use native.Mathlib.Omega.{arith}
use lib.Dec.{leb, ltb, eqb}
use lib.ListN.{length, get_or, take, replicate, length-replicate}
use lib.Seq.{get_or-set_same, get_or-set_other}
use lib.Pow.{pow_pos}
use borrow.Author.Tests.{ltb-true, ltb-false, leb-false, lt-ltb, le-ltb, lt-leb, eq-eqb, ne_eqb, eqb-true, not-true, not-false}
use Rattle.sets.specs.Sets.{has, some, count, joined, shared, inserted, meeting}
use Rattle.sets.proofs.Laws.{true_or_false, and_both, and_true, or_either, or_left, or_right, some_of, some_at, some_nowhere, two_iff, has_set_of, has_set_of_iff, has_shared_iff, has_joined_iff, meeting_iff, has_inserted, has_empty, is_set_of}
use Rattle.rows.specs.Rows.{there, image}
use Rattle.rows.specs.Reach.{reach}
use Rattle.tables.specs.declared.Tables.{Tables}
use Rattle.tables.specs.Tables.{user_count, role_count, database_count, held_by, parents_of, readers_of, statically_reads, holds, may_read}
use Rattle.tables.specs.Tables.{assigned, permitted, revoked, with_readers}
use Rattle.tables.proofs.Meaning.{readers_iff, overlaps_iff, parents_iff, held_iff, fresh_empty}
use Rattle.model.specs.declared.Directory.{Directory}
use Rattle.model.specs.declared.Sessions.{Sessions}
use Rattle.model.specs.declared.Engine.{Engine}
use Rattle.model.specs.declared.calls.Refusal.{Refusal}
use Rattle.model.specs.declared.calls.Refusal.TheVariants.{AboveLimit, NotOpen, NoSuchFlow, OutOfReach, NoPermission, Changed, Linkable}
use Rattle.model.specs.declared.calls.Change.{Change}
use Rattle.model.specs.declared.calls.Change.TheVariants.{Assign, Withdraw, Permit, Revoke, Forward, Mandate}
use Rattle.model.specs.declared.calls.Product.{Product}
use Rattle.model.specs.declared.calls.Ask.TheVariants.{Open, Conflicting, Add, Show}
use Rattle.model.specs.declared.calls.Call.{Call}
use Rattle.model.specs.declared.calls.Call.TheVariants.{Table, Session, Read, Unreadable}
use Rattle.model.specs.declared.calls.Verdict.{Verdict}
use Rattle.model.specs.declared.calls.Verdict.TheVariants.{Granted, Refused}
use Rattle.model.specs.Limits.{session_count, flow_count}
use Rattle.model.specs.State.{all_sessions, session_at, place_count}
use Rattle.model.specs.State.{fresh, engine_of, filled, place, reach_with, conflicts, outside, deny_before, parents_among, role_set, linkable, roleset_at, new_version}
use Rattle.model.specs.Calls.{number_of, returned, verdict_of, with_tables, to_holders, bar, conflicts_in, with_flow, show, links, by_duty, read, ask, step, answer, verdict, after, constraint_at, shown_at, shown_by}
use Rattle.model.specs.Demands.{engine_after, engine_at}
use Rattle.model.specs.Meaning.{One, Meets, NumbersMean, flows_of, reach_of, version_of, deny_of, roles_of, held_of, user_version, ReadsTwo, Links, SetsMean, counted_in, QueryMeans}
use Rattle.model.specs.Meaning.{Renewed, RenewedHolders, Changes, SameFlow, Opened, Added, Means, ValueMeans, Checked, UnderMandate, ReadMeans, ShowMeans, FreshMeans}
use Rattle.model.proofs.Laws.{get_d_same, get_d_filled, get_d_given, session_within, session_above, session_limit, session_one, places, place_lt, roleset_put, roleset_stays, verdict_answer}
use Rattle.model.proofs.Invariants.{Sized}
use Rattle.model.proofs.Chains.{refused_answer}
use Rattle.model.proofs.Granted.{changed_tables, given_by, changed_directory, session_opened, changed_sessions, ask_answer, changed, accepted}
use Rattle.model.proofs.Ledgers.{one_session}
use Rattle.model.proofs.SeenRows.{granted_after, granted_answer, within_open, within_add}
use Rattle.model.proofs.Seen.{given_lengths, sized_fresh, sized_after}

-- ---- the sessions' numbers

pub numbers_mean : NumbersMean
numbers_mean = record {
  within = session_within;
  above = session_above;
  apart = λ p q s t l m e. one_session p q s t (sym (session_one p q s t m) ∙ eq-eqb (session_at p s) (session_at q t) e);
}

-- ---- the sets, over their sizes

module _ (R U D : ℕ) (T : Tables) where
  conflicts_mean : (n : ℕ) (reach : ℕ → ℕ) (c : ℕ) → (has (conflicts R U D T n reach) c ≡ true) ↔ ((c < R) × One U (λ u. (holds T u c ≡ true) × ReadsTwo R D T u n reach))
  unfolding conflicts
  conflicts_mean n reach c = (
    λ h.
        let a = (has_set_of_iff R (λ x. some U (p x)) c).0 h in
        let u = some_of U (p c) a.1 in
        let b = and_both (holds T u.0 c) (leb 2 (count n (q u.0))) u.2 in
        (a.0, (u.0, u.1, (b.0, (two_iff n (q u.0)).0 b.1))),
    λ r. (has_set_of_iff R (λ x. some U (p x)) c).1 (r.0, some_at U (p c) r.1.0 r.1.1 (and_true r.1.2.0 ((two_iff n (q r.1.0)).1 r.1.2.1))),
  )
    where
      q : ℕ → ℕ → Bool
      q u g = statically_reads R D T.roles T.readers u (reach g)

      p : ℕ → ℕ → Bool
      p x u = holds T u x && leb 2 (count n (q u))

  -- of these roles, the parents of the denied ones
  pub among_means : (may deny r : ℕ) → (has (parents_among R U T.roles may deny) r ≡ true)
      ↔ ((r < R) × (has may r ≡ true) × One R (λ o. (has deny o ≡ true) × One U (λ u. (holds T u o ≡ true) × (holds T u r ≡ true))))
  among_means may deny r = (
    λ h.
        let a = (has_shared_iff R may (parents_of R U T.roles deny) r).0 h in
        let c = ((parents_iff R U T.roles deny r).0 a.2).1 in
        let u = (overlaps_iff U T.roles c.0 r).0 c.3 in
        (a.0, a.1, (c.0, c.1, (c.2, (u.0, u.1, (u.2, u.3))))),
    λ w.
        let c = w.2 in
        let u = c.2.1 in
        (has_shared_iff R may (parents_of R U T.roles deny) r).1 (w.0, w.1, (parents_iff R U T.roles deny r).1 (w.0, (c.0, c.1, c.2.0, (overlaps_iff U T.roles c.0 r).1 (u.0, u.1, u.2.0, u.2.1)))),
  )

  -- the roles that may read a database of the set
  pub readers_mean : (found r : ℕ) → (has (readers_of R D T.readers found) r ≡ true) ↔ ((r < R) × One D (λ d. (has found d ≡ true) × (may_read T r d ≡ true)))
  readers_mean found r = (
    λ h. let b = (readers_iff R D T.readers found r).0 h in (b.0, (b.1.0, b.1.1, (b.1.2, b.1.3))),
    λ w. (readers_iff R D T.readers found r).1 (w.0, (w.1.0, w.1.1, w.1.2.0, w.1.2.1)),
  )

  role_set_means : (deny reach r : ℕ) → (has (role_set R U D T deny reach) r ≡ true)
      ↔ ((r < R) × One D (λ d. (has reach d ≡ true) × (may_read T r d ≡ true)) × One R (λ o. (has deny o ≡ true) × One U (λ u. (holds T u o ≡ true) × (holds T u r ≡ true))))
  unfolding role_set
  role_set_means deny reach r = (
    λ h. let a = (among_means (readers_of R D T.readers reach) deny r).0 h in (a.0, ((readers_mean reach r).0 a.1).1, a.2),
    λ w. (among_means (readers_of R D T.readers reach) deny r).1 (w.0, (readers_mean reach r).1 (w.0, w.1), w.2),
  )

outside_means : (R chosen conflicting : ℕ) → (outside R chosen conflicting ≡ true) ↔ One R (λ r. (has chosen r ≡ true) × (has conflicting r ≡ false))
unfolding outside
outside_means R chosen conflicting = (
  λ h.
      let w = some_of R (λ r. has chosen r && not (has conflicting r)) h in
      let b = and_both (has chosen w.0) (not (has conflicting w.0)) w.2 in
      (w.0, w.1, (b.0, not-true (has conflicting w.0) b.1)),
  λ r. some_at R (λ x. has chosen x && not (has conflicting x)) r.0 r.1 (and_true r.2.0 (ap not r.2.1)),
)

meets_means : (R x y : ℕ) → (meeting R x y ≡ true) ↔ Meets R x y
meets_means R x y = (
  λ h. let w = (meeting_iff R x y).0 h in (w.0, w.1, (w.2, w.3)),
  λ w. (meeting_iff R x y).1 (w.0, w.1, w.2.0, w.2.1),
)

links_mean : (R F held deny : ℕ) (roles : ℕ → ℕ) → (linkable R F held deny roles ≡ true) ↔ Links R F held deny roles
unfolding linkable
links_mean R F held deny roles = (
  λ h.
      let a = and_both (meeting R held deny) (leb 2 (count F meets)) h in
      let w = (two_iff F meets).0 a.1 in
      ((meets_means R held deny).0 a.0, (w.0, w.1, w.2, w.3, (met w.0).0 w.4, (met w.1).0 w.5)),
  λ k.
      let w = k.1 in
      and_true ((meets_means R held deny).1 k.0) ((two_iff F meets).1 (w.0, w.1, w.2, w.3, (met w.0).1 w.4, (met w.1).1 w.5)),
)
  where
    meets : ℕ → Bool
    meets g = meeting R held (roles g)

    met : (g : ℕ) → (meets g ≡ true) ↔ Meets R held (roles g)
    met g = meets_means R held (roles g)

pub sets_mean : (R U D F : ℕ) (T : Tables) → SetsMean R U D F T
sets_mean R U D F T = record { conflicting = conflicts_mean R U D T; unfit = outside_means R; roles = role_set_means R U D T; links = links_mean R F }

-- ---- 07

counted_old : (e : Engine) (s root g : ℕ) → g < flows_of e s → counted_in e s root g ≡ reach_of e s g
unfolding reach_with
counted_old e s root g l = rw (lt-ltb g (flows_of e s) l)

counted_new : (e : Engine) (s root : ℕ) → counted_in e s root (flows_of e s) ≡ reach database_count e.directory.tables.forwards root
unfolding reach_with
counted_new e s root = rw (le-ltb (flows_of e s) (flows_of e s) (omega arith), eq-eqb (flows_of e s) (flows_of e s) refl)

pub query_means : (e : Engine) (p : Product) (s root : ℕ) → QueryMeans e p s root
unfolding conflicts_in accepted ask_answer
query_means e p s root = record {
  conflicting = λ c. conflicts_mean role_count user_count database_count e.directory.tables (suc (flows_of e (session_at p s))) (counted_in e (session_at p s) root) c;
  older = counted_old e (session_at p s) root;
  newest = counted_new e (session_at p s) root;
  answered = λ h. granted_answer e (Session p s (Conflicting root)) h;
}

-- ---- an addition

-- the deny set before the new flow's: the last flow's, and nothing where there is none
before_means : (denies : List ℕ) (s n r : ℕ) → (has (deny_before denies s n) r ≡ true) ↔ ((f : ℕ) × (n ≡ suc f) × (has (get_or denies (place s f) 0) r ≡ true))
unfolding deny_before
before_means denies s zero r = (λ h. absurd (true≢false (sym h ∙ has_empty r)), λ w. let z : 0 ≡ suc w.0 = w.1 in absurd (omega arith))
before_means denies s (suc n) r = (λ h. (n, refl, h), λ w. let q : w.0 ≡ n = omega (arith, w.1) in rw q at w.2)

-- nobody reads where nothing is reached
pub role_set_none : (T : Tables) (deny : ℕ) → role_set role_count user_count database_count T deny 0 ≡ 0
unfolding role_set shared image
role_set_none T deny =
    sym (is_set_of role_count 0 _ (pow_pos role_count)
    (λ r l. has_empty r
    ∙ sym (ap (λ (b : Bool). b && has (parents_of role_count user_count T.roles deny) r)
    (has_set_of role_count _ r l ∙ some_nowhere database_count _ (λ d m. ap (λ (b : Bool). b && there T.readers d r) (has_empty d))))))

module _ (e : Engine) (z : Sized e) (s root chosen : ℕ) (sl : s < all_sessions) (nl : flows_of e s < flow_count) where
  n : ℕ
  n = flows_of e s

  new : ℕ
  new = reach database_count e.directory.tables.forwards root

  deny : ℕ
  deny = joined role_count (deny_before e.sessions.denies s n) chosen

  x : Engine
  x = engine_of e.directory (changed_sessions e.directory e.sessions s (Add root chosen))

  inside : place s n < place_count
  unfolding n
  inside = place_lt s n sl nl

  older : (t f : ℕ) → f < flow_count → (t ≡ s → f ≡ n → ⊥) → SameFlow e x t f
  unfolding n new deny x changed_sessions with_flow
  older t f l d =
      let q = places t f s n l nl d in
      record {
        root = simp get_or-set_other;
        reach = simp get_or-set_other;
        version = simp get_or-set_other;
        deny = simp get_or-set_other;
        roles = λ g k. roleset_stays e.sessions.rolesets s n _ t f g k q;
      }

  its_reach : reach_of x s n ≡ new
  unfolding n new deny x changed_sessions with_flow
  its_reach = get_or-set_same e.sessions.reaches (place s n) new 0 (rw z.reaches inside)

  its_deny : deny_of x s n ≡ deny
  unfolding n new deny x changed_sessions with_flow
  its_deny = get_or-set_same e.sessions.denies (place s n) deny 0 (rw z.denies inside)

  its_roles : (g : ℕ) → g < flow_count → roles_of x s n g ≡ role_set role_count user_count database_count e.directory.tables deny (counted_in e s root g)
  unfolding n new deny x changed_sessions with_flow
  its_roles g l = roleset_put e.sessions.rolesets s n _ g z.rolesets sl nl l

  -- the reach that the addition went by is the flow's
  reach_with_is : (g : ℕ) → g ≤ n → counted_in e s root g ≡ reach_of x s g
  unfolding n new
  reach_with_is g l = go (dec_lt g n)
    where
      go : Dec (g < n) → counted_in e s root g ≡ reach_of x s g
      go (yes k) = counted_old e s root g k ∙ sym (older s g (omega arith) (λ a b. omega arith)).reach
      go (no k) =
          let q : g ≡ n = omega arith in
          rw q (counted_new e s root ∙ sym its_reach)

  deny_means : (r : ℕ) → (has deny r ≡ true) ↔ ((r < role_count) × (((f : ℕ) × (n ≡ suc f) × (has (deny_of e s f) r ≡ true)) ⊎ (has chosen r ≡ true)))
  unfolding deny
  deny_means r =
      let b = before_means e.sessions.denies s n r in
      let j = has_joined_iff role_count (deny_before e.sessions.denies s n) chosen r in (
        λ h. let a = j.0 h in (a.0, ⊎_elim (λ w. inl (b.0 w)) (λ w. inr w) a.1),
        λ w. j.1 (w.0, ⊎_elim (λ v. inl (b.1 v)) (λ v. inr v) w.1),
      )

  flow_added : Added e x s root chosen
  unfolding n new deny x changed_sessions with_flow reach_with
  flow_added = record {
    counted = get_or-set_same e.sessions.counts s (n + 1) 0 (rw z.counts sl);
    elsewhere = λ t d. get_or-set_other e.sessions.counts s t (n + 1) 0 d;
    root_is = get_or-set_same e.sessions.roots (place s n) root 0 (rw z.roots inside);
    reach_is = its_reach;
    version_is = get_or-set_same e.sessions.versions (place s n) e.directory.version 0 (rw z.versions inside);
    deny_is = λ r. rw its_deny (deny_means r);
    roles_are = λ g l. its_roles g (omega (arith, nl)) ∙ rw (its_deny, reach_with_is g l);
    roles_past = λ g l m. its_roles g m ∙ rw (le-ltb g n (omega arith), ne_eqb g n (λ q. omega arith)) (role_set_none e.directory.tables deny);
    older = older;
    directory = refl;
    opened = refl;
  }

pub added : (e : Engine) (p : Product) (s root chosen : ℕ) → Sized e → verdict e (Session p s (Add root chosen)) ≡ Granted
    → Added e (changed e (Session p s (Add root chosen))) (session_at p s) root chosen
unfolding x changed
added e p s root chosen z h = let w = within_add e p s root chosen h in flow_added e z (session_at p s) root chosen (session_within p s w.0) w.4

-- ---- new versions

no_holder : (T : Tables) (r : ℕ) → ((w : ℕ) → w < user_count → holds T w r ≡ false) → held_by user_count T.roles r ≡ false
unfolding held_by
no_holder T r f = some_nowhere user_count (λ u. holds T u r) f

module _ (D : Directory) (S : Sessions) (users : length D.versions ≡ user_count) where
  renewed_by : (T : Tables) (named : ℕ → Bool) → Renewed (engine_of D S) (engine_of (new_version (with_tables D T) named) S) (λ u. named u ≡ true)
  unfolding new_version
  renewed_by T named = record {
    rises = refl;
    given = λ u l t. at u l ∙ rw t;
    kept = λ u l f. at u l ∙ ⊎_elim (λ (t : named u ≡ true). absurd (f t)) (λ (t : named u ≡ false). rw t) (true_or_false (named u));
  }
    where
      at : (u : ℕ) → u < user_count → get_or (new_version (with_tables D T) named).versions u 0 ≡ cond (named u) (D.version + 1) (get_or D.versions u 0)
      at u l = get_d_given named (D.version + 1) user_count D.versions u (omega arith) l

  -- the holders of r, before and after a change of who may read what
  holders_renewed : (rows : List ℕ) (r : ℕ) → RenewedHolders (engine_of D S) (engine_of (to_holders (with_tables D (with_readers D.tables rows)) r) S) r
  unfolding to_holders with_readers
  holders_renewed rows r = record {
    held = λ w. rw ((held_iff user_count D.tables.roles r).1 w) (renewed_by (with_readers D.tables rows) (λ u. holds D.tables u r));
    unheld = λ f. rw (no_holder D.tables r f) (record { stays = refl; kept = refl });
  }

changes : (e : Engine) (c : Change) → length e.directory.versions ≡ user_count → Changes e (changed e (Table c)) c
unfolding changed changed_directory changed_tables given_by permitted revoked
changes e (Assign u r) z =
    let h = renewed_by e.directory e.sessions z (assigned e.directory.tables u r) (λ w. eqb w u) in
    ((given_lengths _ (Assign u r)).0, record { rises = h.rises; given = λ w l q. h.given w l (eq-eqb w u q); kept = λ w l q. h.kept w l (λ t. q (eqb-true w u t)) })
changes e (Withdraw u r) z = (refl, record { stays = refl; kept = refl })
changes e (Permit r d) z = ((given_lengths _ (Permit r d)).0, holders_renewed e.directory e.sessions z _ r)
changes e (Revoke r d) z = ((given_lengths _ (Revoke r d)).0, holders_renewed e.directory e.sessions z _ r)
changes e (Forward d x) z = (refl, record { stays = refl; kept = refl })
changes e (Mandate r d) z = (refl, record { stays = refl; kept = refl })

-- ---- an opening

opened : (e : Engine) (s : ℕ) → flows_of e s ≡ 0 → Opened e (engine_of e.directory (session_opened e.sessions s)) s
unfolding session_opened
opened e s n =
    record {
      opened = λ t l. entered t (has_inserted 64 e.sessions.opened s t (omega arith));
      flowless = n;
      counts = λ t. refl;
      flows = λ t f. record { root = refl; reach = refl; version = refl; deny = refl; roles = λ g l. refl };
      directory = refl;
    }
  where
    entered : (t : ℕ) → has (inserted 64 e.sessions.opened s) t ≡ (has e.sessions.opened t || eqb t s)
        → (has (inserted 64 e.sessions.opened s) t ≡ true) ↔ ((has e.sessions.opened t ≡ true) ⊎ (t ≡ s))
    entered t w = (
      λ h. ⊎_elim (λ a. inl a) (λ a. inr (eqb-true t s a)) (or_either (has e.sessions.opened t) (eqb t s) (sym w ∙ h)),
      λ r. w ∙ ⊎_elim (λ (a : has e.sessions.opened t ≡ true). or_left (eqb t s) a) (λ (a : t ≡ s). or_right (has e.sessions.opened t) (eq-eqb t s a)) r,
    )

-- ---- every accepted call

pub means : (e : Engine) (c : Call) → Sized e → verdict e c ≡ Granted → Means e (changed e c) c
unfolding changed changed_sessions verdict answer step verdict_of
means e (Table c) z h = (changes e c z.users, refl)
means e (Session p s Open) z h = let w = within_open e p s h in opened e (session_at p s) (z.shut (session_at p s) (session_within p s w.0) w.1)
means e (Session p s (Conflicting root)) z h = refl
means e (Session p s (Add root chosen)) z h = added e p s root chosen z h
means e (Session p s (Show f)) z h = refl
means e (Read p u s f d) z h = refl
means e Unreadable z h = let q : ◌≡◌ {A = ℕ} 0 1 = cc in omega arith

sized_later : (e : Engine) (cs : List Call) → Sized e → Sized (engine_after e cs)
unfolding engine_after
sized_later e [] z = z
sized_later e (c ∷ cs) z = sized_later (after e c) cs (sized_after e c z)

pub sized_at : (cs : List Call) (i : ℕ) → Sized (engine_at cs i)
unfolding engine_at
sized_at cs i = sized_later fresh (take i cs) sized_fresh

-- on an engine that any calls led to
pub call_means : (cs : List Call) (i : ℕ) (c : Call) → verdict (engine_at cs i) c ≡ Granted → Means (engine_at cs i) (after (engine_at cs i) c) c
call_means cs i c h = rw (granted_after (engine_at cs i) c h) (means (engine_at cs i) c (sized_at cs i) h)

-- and for any engine by value
pub value_means : (e : Engine) → ValueMeans e
unfolding after step ask changed changed_sessions
value_means e = record {
  change = λ c z h. rw (granted_after e (Table c) h) (changes e c z, refl);
  opening = λ p s n h. rw (granted_after e (Session p s Open) h) (opened e (session_at p s) n);
  query = λ p s root. refl;
  shown = λ p s f. refl;
  read = λ p u s f d. refl;
}

-- ---- 0a

filled_from_0 : (p : ℕ → ℕ) (n : ℕ) (l : List ℕ) (i : ℕ) → n ≤ length l → i < n → get_or (filled 0 p n l) i 0 ≡ p i
filled_from_0 p n l i h k = let q : 0 + i ≡ i = omega arith in rw q at (get_d_filled 0 p n l i (omega arith) k)

pub show_means : (e : Engine) (p : Product) (s f : ℕ) → ShowMeans e p s f
unfolding verdict answer step ask accepted ask_answer shown_by shown_at constraint_at
show_means e p s f = record {
  refused = λ why h. rw (h, refused_answer (show e.sessions (session_at p s) f) why h);
  granted = λ h. rw h (granted_answer e (Session p s (Show f)) h, refl, refl, λ g l. filled_from_0 (roleset_at e.sessions.rolesets (session_at p s) f) flow_count (replicate flow_count 0) g (omega arith) l);
}

-- ---- the verdict on a read

-- a row that gives another verdict was passed
passed_over : (b : Bool) (why : Refusal) (later v : Verdict) → Refused why ≢ v → bar b why later ≡ v → (b ≡ false) × (later ≡ v)
passed_over true why later v n h = absurd (n h)
passed_over false why later v n h = (refl, h)

-- v is no refusal by a row before 13
abbrev Late : Verdict → Type 0
Late v = (why : Refusal) → number_of why < 13 → Refused why ≢ v

late_granted : Late Granted
late_granted why l h = let z : ◌≡◌ {A = ℕ} 0 1 = cc in omega arith

late_changed : Late (Refused Changed)
unfolding returned number_of
late_changed why l h = omega (arith, ap returned h)

late_linkable : Late (Refused Linkable)
unfolding returned number_of
late_linkable why l h = omega (arith, ap returned h)

-- which of the last two rows is met, outside a mandate
last_rows : Bool → Bool → Bool → Verdict
last_rows m a b = cond m Granted (bar a Changed (bar b Linkable Granted))

last_rows_are : (m a b : Bool) → ((last_rows m a b ≡ Refused Changed) ↔ ((m ≡ false) × (a ≡ true))) × ((last_rows m a b ≡ Refused Linkable) ↔ ((m ≡ false) × (a ≡ false) × (b ≡ true)))
    × ((last_rows m a b ≡ Granted) ↔ ((m ≡ true) ⊎ ((a ≡ false) × (b ≡ false))))
unfolding last_rows
last_rows_are true a b = (
  (λ h. let z : ◌≡◌ {A = ℕ} 0 1 = cc in absurd (omega arith), λ h. absurd (true≢false h.0)),
  (λ h. let z : ◌≡◌ {A = ℕ} 0 1 = cc in absurd (omega arith), λ h. absurd (true≢false h.0)),
  (λ h. inl refl, λ h. refl),
)
last_rows_are false true b = (
  (λ h. (refl, refl), λ h. refl),
  (λ h. let z : ◌≡◌ {A = ℕ} 0 1 = cc in absurd (omega arith), λ h. absurd (true≢false h.1)),
  (λ h. let z : ◌≡◌ {A = ℕ} 0 1 = cc in absurd (omega arith), λ h. ⊎_elim (λ t. absurd (true≢false (sym t))) (λ t. absurd (true≢false t.0)) h),
)
last_rows_are false false true = (
  (λ h. let z : ◌≡◌ {A = ℕ} 0 1 = cc in absurd (omega arith), λ h. absurd (true≢false (sym h.1))),
  (λ h. (refl, refl, refl), λ h. refl),
  (λ h. let z : ◌≡◌ {A = ℕ} 0 1 = cc in absurd (omega arith), λ h. ⊎_elim (λ t. absurd (true≢false (sym t))) (λ t. absurd (true≢false t.1)) h),
)
last_rows_are false false false = (
  (λ h. let z : ◌≡◌ {A = ℕ} 0 1 = cc in absurd (omega arith), λ h. absurd (true≢false (sym h.1))),
  (λ h. let z : ◌≡◌ {A = ℕ} 0 1 = cc in absurd (omega arith), λ h. absurd (true≢false (sym h.2))),
  (λ h. inr (refl, refl), λ h. refl),
)

module _ (e : Engine) (p : Product) (u s f d : ℕ) where
  is_read : verdict e (Read p u s f d) ≡ read e.directory e.sessions u (session_at p s) f d
  unfolding verdict answer step
  is_read = verdict_answer (read e.directory e.sessions u (session_at p s) f d)

  changed_test : Bool
  changed_test = ltb (version_of e (session_at p s) f) (user_version e u)

  duty_test : Bool
  duty_test = by_duty e.directory.tables (held_of e u) d

  linkable_test : Bool
  linkable_test = links e.sessions (session_at p s) f (held_of e u)

  -- a verdict by a later row than 12 passed the others
  checked : (v : Verdict) → Late v → verdict e (Read p u s f d) ≡ v → Checked e p u s f d × (last_rows duty_test changed_test linkable_test ≡ v)
  unfolding read number_of last_rows duty_test changed_test linkable_test there
  checked v late h =
      let a = passed_over (leb user_count u) AboveLimit _ v (late AboveLimit (omega arith)) (sym is_read ∙ h) in
      let b = passed_over (leb database_count d) AboveLimit _ v (late AboveLimit (omega arith)) a.1 in
      let c = passed_over (leb all_sessions (session_at p s)) AboveLimit _ v (late AboveLimit (omega arith)) b.1 in
      let g = passed_over (leb flow_count f) AboveLimit _ v (late AboveLimit (omega arith)) c.1 in
      let o = passed_over (not (has e.sessions.opened (session_at p s))) NotOpen _ v (late NotOpen (omega arith)) g.1 in
      let n = passed_over (leb (flows_of e (session_at p s)) f) NoSuchFlow _ v (late NoSuchFlow (omega arith)) o.1 in
      let r = passed_over (not (has (reach_of e (session_at p s) f) d)) OutOfReach _ v (late OutOfReach (omega arith)) n.1 in
      let m = passed_over (not (meeting role_count (held_of e u) (get_or e.directory.tables.readers d 0))) NoPermission _ v (late NoPermission (omega arith)) r.1 in (
        record {
          user = leb-false user_count u a.0;
          database = leb-false database_count d b.0;
          session = leb-false session_count s (sym (session_limit p s) ∙ c.0);
          flow = leb-false flow_count f g.0;
          opened = not-false (has e.sessions.opened (session_at p s)) o.0;
          counted = leb-false (flows_of e (session_at p s)) f n.0;
          reached = not-false (has (reach_of e (session_at p s) f) d) r.0;
          permitted = (meets_means role_count (held_of e u) (get_or e.directory.tables.readers d 0)).0 (not-false _ m.0);
        },
        m.1,
      )

  settled : Checked e p u s f d → verdict e (Read p u s f d) ≡ last_rows duty_test changed_test linkable_test
  unfolding read last_rows duty_test changed_test linkable_test there
  settled k =
      is_read
      ∙ rw (
        lt-leb user_count u k.user,
        lt-leb database_count d k.database,
        session_limit p s ∙ lt-leb session_count s k.session,
        lt-leb flow_count f k.flow,
        k.opened,
        lt-leb (flows_of e (session_at p s)) f k.counted,
        k.reached,
        (meets_means role_count (held_of e u) (get_or e.directory.tables.readers d 0)).1 k.permitted,
      )

  -- the three tests
  is_duty : (duty_test ≡ true) ↔ UnderMandate e u d
  unfolding duty_test by_duty there
  is_duty = meets_means role_count (held_of e u) (get_or e.directory.tables.mandates d 0)

  no_duty : (duty_test ≡ false) ↔ (UnderMandate e u d → ⊥)
  no_duty = (λ h m. true≢false (sym (is_duty.1 m) ∙ h), λ n. ⊎_elim (λ (t : duty_test ≡ true). absurd (n (is_duty.0 t))) (λ t. t) (true_or_false duty_test))

  is_changed : (changed_test ≡ true) ↔ (version_of e (session_at p s) f < user_version e u)
  unfolding changed_test
  is_changed = (ltb-true (version_of e (session_at p s) f) (user_version e u), lt-ltb (version_of e (session_at p s) f) (user_version e u))

  is_unchanged : (changed_test ≡ false) ↔ (user_version e u ≤ version_of e (session_at p s) f)
  unfolding changed_test
  is_unchanged = (ltb-false (version_of e (session_at p s) f) (user_version e u), le-ltb (version_of e (session_at p s) f) (user_version e u))

  is_linked : (linkable_test ≡ true) ↔ Links role_count flow_count (held_of e u) (deny_of e (session_at p s) f) (roles_of e (session_at p s) f)
  unfolding linkable_test links
  is_linked = links_mean role_count flow_count (held_of e u) (deny_of e (session_at p s) f) (roles_of e (session_at p s) f)

  pub read_means : ReadMeans e p u s f d
  read_means =
      let w = last_rows_are duty_test changed_test linkable_test in
      record {
        changed = (
          λ h.
              let k = checked (Refused Changed) late_changed h in
              let t = w.0.0 k.1 in
              (k.0, no_duty.0 t.0, is_changed.0 t.1),
          λ r. settled r.0 ∙ w.0.1 (no_duty.1 r.1, is_changed.1 r.2),
        );
        linkable = (
          λ h.
              let k = checked (Refused Linkable) late_linkable h in
              let t = w.1.0 k.1 in
              (k.0, no_duty.0 t.0, is_unchanged.0 t.1, is_linked.0 t.2),
          λ r. settled r.0 ∙ w.1.1 (no_duty.1 r.1, is_unchanged.1 r.2, is_linked.1 r.3),
        );
        granted = (
          λ h.
              let k = checked Granted late_granted h in
              (k.0, ⊎_elim (λ t. inl (is_duty.0 t)) (λ t. inr (is_unchanged.0 t.0, λ m. true≢false (sym (is_linked.1 m) ∙ t.1))) (w.2.0 k.1)),
          λ r. settled r.0 ∙ w.2.1 (⊎_elim (λ m. inl (is_duty.1 m)) (λ t. inr (is_unchanged.1 t.0, ⊎_elim (λ (x : linkable_test ≡ true). absurd (t.1 (is_linked.0 x))) (λ x. x) (true_or_false linkable_test))) r.1),
        );
      }

-- ---- a fresh engine

pub fresh_means : FreshMeans fresh
unfolding fresh
fresh_means = record {
  users = length-replicate {A = ℕ} user_count 0;
  zeros = λ u. get_d_same {A = ℕ} user_count u 0;
  system = refl;
  tables = fresh_empty;
  sessions = λ s. (has_empty s, get_d_same {A = ℕ} all_sessions s 0);
}
