-- A number that isn't 0, read as the row that has it, or as none, is read as the list of verdicts has it.
-- Assumes nothing.
use Prim.Native.Nat.{ℕ, ◌≤◌, ◌<◌}
use mathlib.Core.Path.{◌≡◌, sym, ap, ◌∙◌}
use mathlib.Core.Logic.{◌⊎◌, ⊎_elim}
use native.Mathlib.Omega.{arith}
use lib.ListN.{get_or-eq_default}
use Rattle.std.proofs.Common.{Result, Ok, Err}
use Rattle.std.specs.Result.{MatchResult, result_unwrap_or}
use Rattle.model.specs.declared.calls.Refusal.{Refusal}
use Rattle.model.specs.declared.calls.Refusal.TheVariants.{Malformed}
use Rattle.model.specs.declared.calls.Verdict.TheVariants.{Refused}
use Rattle.model.specs.declared.conversions.NoSuchRow.{NoSuchRow}
use Rattle.model.specs.Calls.{number_of, returned}
use Rattle.verdict.specs.Numbers.{verdicts, verdict_by}
use Rattle.verdict.proofs.Laws.{back}

past : (n : ℕ) → 15 < n → Refused Malformed ≡ verdict_by n
unfolding verdict_by verdicts
past n l =
    let m : 16 ≤ n = omega arith in
    sym (get_or-eq_default verdicts (Refused Malformed) m)

row : (n : ℕ) (why : Refusal) → number_of why ≡ n → Refused why ≡ verdict_by n
unfolding returned
row n why e = sym (back (Refused why)) ∙ ap verdict_by e

pub by_row : (n : ℕ) (r : Result Refusal NoSuchRow) → (n ≡ 0 → ⊥) → MatchResult r (λ why. number_of why ≡ n) (λ e. (e.0 ≡ n) × ((n ≡ 0) ⊎ (15 < n))) → Refused (result_unwrap_or r Malformed) ≡ verdict_by n
by_row n (Ok why) h e = row n why e
by_row n (Err none) h e = ⊎_elim (λ (z : n ≡ 0). absurd (h z)) (λ (l : 15 < n). past n l) e.1
