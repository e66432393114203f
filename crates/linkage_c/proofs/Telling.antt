-- From what the function of a call promises to what a caller in C is given back.
-- Assumes nothing.
use Prim.Native.Nat.{ℕ, ◌+◌, ◌*◌, ◌<◌}
use mathlib.Core.Path.{◌≡◌, refl, sym, ap, ◌∙◌}
use mathlib.Core.Logic.{◌≢◌}
use mathlib.Core.Bool.{true, false, cond}
use mathlib.Core.List.{List}
use native.Mathlib.Omega.{arith}
use lib.ListN.{get_or, replicate}
use borrow.Author.Tests.{lt-ltb}
use Rattle.std.proofs.Common.{Some, None}
use Rattle.std.proofs.lemmas.Option.{none-some}
use Rattle.model.specs.declared.Constraint.{Constraint}
use Rattle.model.specs.declared.Directory.{Directory}
use Rattle.model.specs.declared.Sessions.{Sessions}
use Rattle.model.specs.declared.Engine.{Engine}
use Rattle.model.specs.declared.calls.Change.{Change}
use Rattle.model.specs.declared.calls.Product.{Product}
use Rattle.model.specs.declared.calls.Ask.{Ask}
use Rattle.model.specs.declared.calls.Ask.TheVariants.{Show}
use Rattle.model.specs.declared.calls.Call.{Call}
use Rattle.model.specs.declared.calls.Call.TheVariants.{Table, Session, Read}
use Rattle.model.specs.declared.calls.Verdict.{Verdict}
use Rattle.model.specs.declared.calls.Verdict.TheVariants.{Granted as Verdict-as-Granted, Refused as Verdict-as-Refused}
use Rattle.model.specs.declared.calls.Answer.{Answer}
use Rattle.model.specs.declared.calls.Answer.TheVariants.{Version, Roles, Flow, Granted, Constraint as Answer-as-Constraint, Refused}
use Rattle.model.specs.Limits.{flow_count, last_version}
use Rattle.model.specs.State.{all_sessions, session_at, engine_of, place, set_place, roleset_at, filled}
use Rattle.model.specs.Calls.{done, returned, verdict_of, answer_of, change, ask, read, step, answer, verdict, constraint_at}
use Rattle.model.proofs.Seen.{demand1}
use Rattle.model.proofs.Demands.{told}
use Rattle.protocol.proofs.Laws.{show_within}
use Rattle.answers.specs.Answers.{has_place, shown_place}
use Rattle.encoding.specs.Written.{constraint_of}
use Rattle.step.proofs.Answers.{of_directory, of_sessions, told_after, told_answer}
use Rattle.given.specs.Given.{version_or, roles_or, flow_or, size_or, shown_or, Tells, Finds, Adds, Shows, Judges}

-- ---- the step of which a function's call is a part

pub of_table : (D D' : Directory) (S : Sessions) (c : Change) (a : Answer) → done a D' ≡ change last_version D S.counts c → done a (engine_of D' S) ≡ step last_version (engine_of D S) (Table c)
unfolding step
of_table D D' S c a h = of_directory S h

pub of_session : (D : Directory) (S S' : Sessions) (p : Product) (s t : ℕ) (k : Ask) (a : Answer) → t ≡ session_at p s → done a S' ≡ ask D S t k → done a (engine_of D S') ≡ step last_version (engine_of D S) (Session p s k)
unfolding step
of_session D S S' p s t k a i h = rw (← i) (of_sessions D h)

-- ---- what is given back of a step

module _ (e e' : Engine) (c : Call) (a : Answer) (n : ℕ) (h : done a e' ≡ step last_version e c) (q : n ≡ returned (verdict_of a)) where
  by_number : n ≡ returned (verdict e c)
  unfolding verdict
  by_number = q ∙ ap (λ x. returned (verdict_of x)) (told_answer e e' c a h)

  pub tells : (told told' : ℕ) → told' ≡ version_or told a → Tells e c e' n told told'
  tells told told' v = record { number = by_number; version = v ∙ ap (version_or told) (told_answer e e' c a h); engine = told_after e e' c a h }

  pub adds : (flow size told flow' size' told' : ℕ) → flow' ≡ flow_or flow a → size' ≡ size_or size a → told' ≡ version_or told a → Adds e c e' n flow size told flow' size' told'
  adds flow size told flow' size' told' f z v =
      let t = told_answer e e' c a h in
      record { number = by_number; added = f ∙ ap (flow_or flow) t; reached = z ∙ ap (size_or size) t; version = v ∙ ap (version_or told) t; engine = told_after e e' c a h }

-- an answer that tells no roles, or no flow
pub no_roles : (old : ℕ) (a : Answer) → ((m : ℕ) → a ≡ Roles m → ⊥) → old ≡ roles_or old a
unfolding roles_or
no_roles old (Version v) h = refl
no_roles old (Roles m) h = absurd (h m refl)
no_roles old (Flow n k v) h = refl
no_roles old Granted h = refl
no_roles old (Answer-as-Constraint s f) h = refl
no_roles old (Refused why) h = refl

pub no_flow : (flow size : ℕ) (a : Answer) → ((n k v : ℕ) → a ≡ Flow n k v → ⊥) → (flow ≡ flow_or flow a) × (size ≡ size_or size a)
unfolding flow_or size_or
no_flow flow size (Version v) h = (refl, refl)
no_flow flow size (Roles m) h = (refl, refl)
no_flow flow size (Flow n k v) h = absurd (h n k v refl)
no_flow flow size Granted h = (refl, refl)
no_flow flow size (Answer-as-Constraint s f) h = (refl, refl)
no_flow flow size (Refused why) h = (refl, refl)

pub finds : (e : Engine) (c : Call) (a : Answer) (n : ℕ) → done a e ≡ step last_version e c → n ≡ returned (verdict_of a) → (found found' : ℕ) → found' ≡ roles_or found a → Finds e c n found found'
finds e c a n h q found found' r = record { number = by_number e e c a n h q; roles = r ∙ ap (roles_or found) (told_answer e e c a h); engine = told_after e e c a h }

-- ---- a read

as_answer : (v : Verdict) → returned v ≡ returned (verdict_of (answer_of v))
unfolding verdict_of answer_of
as_answer Verdict-as-Granted = refl
as_answer (Verdict-as-Refused why) = refl

reads : (e : Engine) (p : Product) (u s t f d n : ℕ) → t ≡ session_at p s → n ≡ returned (read e.directory e.sessions u t f d) → n ≡ returned (verdict e (Read p u s f d))
unfolding verdict answer step
reads e p u s t f d n i h = h ∙ rw i (as_answer (read e.directory e.sessions u (session_at p s) f d))

pub judges : (e : Engine) (u t f d n : ℕ) → n ≡ returned (read e.directory e.sessions u t f d) → Judges e u t f d n
judges e u t f d n h = record { number = h; named = λ p s i. reads e p u s t f d n i h }

-- ---- a constraint

kept_old : (old new : Constraint) (v : Verdict) → returned v ≢ 0 → old ≡ shown_or old v new
unfolding shown_or returned
kept_old old new Verdict-as-Granted h = absurd (h refl)
kept_old old new (Verdict-as-Refused why) h = refl

module _ (e : Engine) (p : Product) (s t f : ℕ) (a : Answer) (n : ℕ) (i : t ≡ session_at p s) (h : done a e ≡ step last_version e (Session p s (Show f))) (q : n ≡ returned (verdict_of a)) (old : Constraint) where
  number : n ≡ returned (verdict e (Session p s (Show f)))
  number = by_number e e (Session p s (Show f)) a n h q

  pub shows_none : 0 < n → Shows e p s f n old old
  shows_none z = record { number = number; constraint = kept_old old _ (verdict e (Session p s (Show f))) (λ w. absurd (omega (arith, z, number ∙ w))); engine = told_after e e (Session p s (Show f)) a h }

  granted : n ≡ 0 → verdict e (Session p s (Show f)) ≡ Verdict-as-Granted
  granted z = told (verdict e (Session p s (Show f))) false (sym number ∙ z)

  at_place : n ≡ 0 → shown_place a ≡ place (session_at p s) f
  unfolding shown_place
  at_place z =
      let g = granted z in
      let w = show_within e p s f g in
      rw (told_answer e e (Session p s (Show f)) a h, (demand1 e (Session p s (Show f))).told g, lt-ltb (session_at p s) all_sessions w.0, lt-ltb f flow_count w.1)

  in_place : n ≡ 0 → has_place a ≡ true
  unfolding has_place
  in_place z =
      let w = show_within e p s f (granted z) in
      rw (told_answer e e (Session p s (Show f)) a h, (demand1 e (Session p s (Show f))).told (granted z), lt-ltb (session_at p s) all_sessions w.0, lt-ltb f flow_count w.1)

  -- a question that is granted is never without a place
  pub shows_nowhere : n ≡ 0 → None ≡ cond (has_place a) (Some (shown_place a)) None → Shows e p s f n old old
  shows_nowhere z none = absurd (none-some (shown_place a) (rw (in_place z) at none))

  pub shows : n ≡ 0 → (at version deny : ℕ) (sets : List ℕ) → at ≡ shown_place a → version ≡ get_or e.sessions.versions at 0 → deny ≡ get_or e.sessions.denies at 0
      → sets ≡ filled 0 (λ g. get_or e.sessions.rolesets (at * flow_count + g) 0) flow_count (replicate flow_count 0) → Shows e p s f n old (constraint_of version deny sets)
  unfolding shown_or constraint_at roleset_at set_place
  shows z at version deny sets k v d r =
      record {
        number = number;
        constraint = rw (granted z, v, d, r, k, at_place z);
        engine = told_after e e (Session p s (Show f)) a h;
      }
