-- What an addition works out is what `model` says. And how it ends.
-- Assumes nothing.
use Prim.Native.Nat.{ℕ, suc, ◌+◌, ◌*◌, ◌<◌, ◌^◌}
use mathlib.Core.Path.{◌≡◌, sym, ap, ◌∙◌}
use mathlib.Core.Bool.{true, false, not}
use mathlib.Core.List.{List}
use native.Mathlib.Nat.{add-zero}
use native.Mathlib.Omega.{arith}
use lib.Dec.{leb}
use lib.ListN.{get_or, set}
use borrow.Author.Tests.{lt-leb}
use Rattle.sets.specs.Sets.{has, joined, size_of}
use Rattle.rows.specs.Reach.{reach}
use Rattle.tables.specs.Tables.{user_count, role_count, database_count}
use Rattle.model.specs.Limits.{flow_count}
use Rattle.model.specs.State.{all_sessions, tables_of, directory_of, sessions_of, place, set_place, filled, reach_with, conflicts, outside, deny_before, role_set}
use Rattle.model.specs.declared.calls.Answer.TheVariants.{Flow, Refused}
use Rattle.model.specs.declared.calls.Refusal.TheVariants.{NotConflicting}
use Rattle.model.specs.Calls.{done, conflicts_in, with_flow, add}
use Rattle.graph.specs.Graph.{roles_by_flow, overlapping_by_flow}
use Rattle.graph.proofs.ByFlow.{roles_at, sets_at}
use Rattle.search.specs.Search.{conflicts_of}
use Rattle.search.proofs.ByFlow.{conflicts_by_flow}
use Rattle.addition.specs.RoleSets.{sets_put}
use Rattle.model.proofs.Laws.{filled_cong}

-- from what the three steps promise: what is conflicting, and what is stored
module _ (roles readers forwards mandates reaches may : List ℕ) (s n root new : ℕ) (here : leb all_sessions s ≡ false) (p : new ≡ reach database_count forwards root) (q : may ≡ roles_by_flow readers reaches s n new) where
  conflicts_found : (found : ℕ) → n < flow_count → found ≡ conflicts_of roles may (n + 1) → found ≡ conflicts role_count user_count database_count (tables_of roles readers forwards mandates) (suc n) (reach_with reaches s n (reach database_count forwards root))
  conflicts_found found l e = e ∙ conflicts_by_flow roles readers forwards mandates may n _ (λ g k. roles_at readers forwards reaches may s n root new here p q g (omega arith))

  sets_stored : (given : List ℕ) (deny at : ℕ) (l l' : List ℕ) → given ≡ overlapping_by_flow roles may deny → l' ≡ sets_put given at l
      → l' ≡ filled at (λ g. role_set role_count user_count database_count (tables_of roles readers forwards mandates) deny (reach_with reaches s n (reach database_count forwards root) g)) flow_count l
  unfolding sets_put
  sets_stored given deny at l l' k e = e ∙ filled_cong at _ _ flow_count l (λ g m. ap (λ (x : List ℕ). get_or x g 0) k ∙ sets_at readers forwards reaches may s n root new here p q roles mandates deny g m)

-- the refusals past the limits, from what each of the steps promises
module _ (roles readers forwards mandates users counts roots reaches versions denies sets : List ℕ) (version opened s root chosen : ℕ) (a : leb all_sessions s ≡ false) (b : leb database_count root ≡ false) (w : leb (2 ^ role_count) chosen ≡ false) where
  pub not_conflicting : (may : List ℕ) (new found : ℕ) → not (has opened s) ≡ false → get_or counts s 0 < flow_count
      → new ≡ reach database_count forwards root → may ≡ roles_by_flow readers reaches s (get_or counts s 0) new
      → found ≡ conflicts_of roles may (get_or counts s 0 + 1) → outside role_count chosen found ≡ true
      → done (Refused NotConflicting) (sessions_of opened counts roots reaches versions denies sets) ≡ add (directory_of (tables_of roles readers forwards mandates) users version) (sessions_of opened counts roots reaches versions denies sets) s root chosen
  unfolding add conflicts_in
  not_conflicting may new found o l p q f x =
      rw (a, b, w, o, lt-leb flow_count (get_or counts s 0) l, ap (outside role_count chosen) (sym (conflicts_found roles readers forwards mandates reaches may s (get_or counts s 0) root new a p q found l f)) ∙ x)

-- the first role set's place, as the code works it out
set_place_is : (s n : ℕ) → (s * flow_count + n) * flow_count ≡ set_place s n 0
unfolding set_place place
set_place_is s n = sym (add-zero ((s * flow_count + n) * flow_count))

-- an accepted addition, from what each of its steps promises
pub accepted : (roles readers forwards mandates users counts roots reaches versions denies sets may given sets' : List ℕ) (version opened s root chosen new found old deny size : ℕ)
    → leb all_sessions s ≡ false → leb database_count root ≡ false → leb (2 ^ role_count) chosen ≡ false → not (has opened s) ≡ false → get_or counts s 0 < flow_count
    → new ≡ reach database_count forwards root → may ≡ roles_by_flow readers reaches s (get_or counts s 0) new
    → found ≡ conflicts_of roles may (get_or counts s 0 + 1) → outside role_count chosen found ≡ false
    → old ≡ deny_before denies s (get_or counts s 0) → deny ≡ joined role_count old chosen
    → given ≡ overlapping_by_flow roles may deny → sets' ≡ sets_put given ((s * flow_count + get_or counts s 0) * flow_count) sets → size ≡ size_of database_count new
    → done (Flow (get_or counts s 0) size version) (sessions_of opened (set counts s (get_or counts s 0 + 1)) (set roots (s * flow_count + get_or counts s 0) root) (set reaches (s * flow_count + get_or counts s 0) new) (set versions (s * flow_count + get_or counts s 0) version) (set denies (s * flow_count + get_or counts s 0) deny) sets')
    ≡ add (directory_of (tables_of roles readers forwards mandates) users version) (sessions_of opened counts roots reaches versions denies sets) s root chosen
unfolding add conflicts_in with_flow place
accepted roles readers forwards mandates users counts roots reaches versions denies sets may given sets' version opened s root chosen new found old deny size a b w o l p q f x h d k e z =
    rw (
      a,
      b,
      w,
      o,
      lt-leb flow_count (get_or counts s 0) l,
      ap (outside role_count chosen) (sym (conflicts_found roles readers forwards mandates reaches may s (get_or counts s 0) root new a p q found l f)) ∙ x,
      sets_stored roles readers forwards mandates reaches may s (get_or counts s 0) root new a p q given deny ((s * flow_count + get_or counts s 0) * flow_count) sets sets' k e,
      set_place_is s (get_or counts s 0),
      z,
      d,
      h,
      p,
    )
