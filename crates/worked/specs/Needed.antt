-- Each premise of the two halves of `Demand3` is needed, and each part of it: without it, some list of calls is against the claim.
-- Assumes nothing.
use Rattle.std.specs.Prelude.{ℕ, ◌<◌, ◌≡◌, false, List, ⊤}
use Rattle.model.specs.declared.calls.Change.{Change}
use Rattle.model.specs.declared.calls.Change.TheVariants.{Withdraw, Revoke}
use Rattle.model.specs.declared.calls.Call.{Call}
use Rattle.model.specs.declared.calls.Call.TheVariants.{Table}
use Rattle.model.specs.Ledger.{under_mandate}
use Rattle.model.specs.Demands.{ledger_at, takes_from, Run, run_of, Accepted, FirstHalf, SecondHalf, TwoReads, HoldsDenied, NothingTaken, OutsideMandates}

-- `NothingTaken` as to changes of one kind alone
abbrev pub NothingTakenBy : (ℕ → ℕ → Change) → {run : Run} → TwoReads run → Type 0
NothingTakenBy kind {run} two = (k a b : ℕ) → two.i < k → k < two.j → run.call k ≡ Table (kind a b) → Accepted run k → takes_from (run.ledger k) two.user (kind a b) ≡ false

pub record Needed : Type 0 where
  -- nobody is denied by the flow that was added later, and both are read
  pub denied : ((cs : List Call) → FirstHalf (run_of cs) (λ two. NothingTaken two × OutsideMandates two)) → ⊥
  -- the role that the first flow was read by is withdrawn between the two reads, and the denied role is still held
  pub taken : ((cs : List Call) → FirstHalf (run_of cs) (λ two. HoldsDenied two × OutsideMandates two)) → ⊥
  -- the second read is made under a mandate
  pub mandates : ((cs : List Call) → FirstHalf (run_of cs) (λ two. HoldsDenied two × NothingTaken two)) → ⊥
  pub mandate : ((cs : List Call) → SecondHalf (run_of cs) (λ one. ⊤)) → ⊥
  -- Each part of a premise of the first half, by the name of the part that is left out.
  -- Nobody is denied by the flow that was added later, and that flow is read later: `HoldsDenied` is asked only where it is read first
  pub later : ((cs : List Call) → FirstHalf (run_of cs) (λ two. (two.g < two.f → HoldsDenied two) × NothingTaken two × OutsideMandates two)) → ⊥
  -- it is read first: `HoldsDenied` is asked only where it is read later
  pub earlier : ((cs : List Call) → FirstHalf (run_of cs) (λ two. (two.f < two.g → HoldsDenied two) × NothingTaken two × OutsideMandates two)) → ⊥
  -- a role is withdrawn between the two reads, and no permission is revoked
  pub withdrawals : ((cs : List Call) → FirstHalf (run_of cs) (λ two. HoldsDenied two × NothingTakenBy Revoke two × OutsideMandates two)) → ⊥
  -- permissions are revoked, and no role is withdrawn
  pub revocations : ((cs : List Call) → FirstHalf (run_of cs) (λ two. HoldsDenied two × NothingTakenBy Withdraw two × OutsideMandates two)) → ⊥
  -- the first read is made under a mandate, and the second is not: the flow that was added later is read first
  pub first : ((cs : List Call) → FirstHalf (run_of cs) (λ two. HoldsDenied two × NothingTaken two × (under_mandate (ledger_at cs two.j) two.user two.e ≡ false))) → ⊥
  -- the second is, and the first is not
  pub second : ((cs : List Call) → FirstHalf (run_of cs) (λ two. HoldsDenied two × NothingTaken two × (under_mandate (ledger_at cs two.i) two.user two.d ≡ false))) → ⊥
