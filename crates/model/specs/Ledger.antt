-- Document 01's ledger of demand 3, with K1's two products and K3's mandates. It is fed the calls alone and sees nothing of the engine: tables are tests on pairs, sets are tests on numbers.
-- This file has what the ledger holds and what can be asked of it; Refusals has its rows, and how it takes a call.
-- Assumes nothing.
use Rattle.std.specs.Prelude.{ℕ, zero, suc, ◌-◌, Bool, true, false, ◌&&◌, ◌||◌, List, [], ◌∷◌, ◌++◌, leb, eqb, length, get_or}
use Rattle.sets.specs.Sets.{some, count}
use Rattle.tables.specs.Tables.{user_count, role_count, database_count}
use Rattle.model.specs.declared.calls.Product.{Product}
use Rattle.model.specs.declared.calls.Product.TheVariants.{Server, TermBank}

-- a flow, as it was added
pub record Flow : Type 0 where
  pub root : ℕ
  pub reach : ℕ → Bool
  pub version : ℕ
  pub deny : ℕ → Bool

-- "It holds the tables, the system version, the users' versions, and the open sessions with their flows in order." The sessions are by product (K1), and mandates are a table (K3).
pub record Ledger : Type 0 where
  pub holds : (u r : ℕ) → Bool
  pub may_read : (r d : ℕ) → Bool
  pub forwards : (d e : ℕ) → Bool
  pub mandated : (r d : ℕ) → Bool
  pub system : ℕ
  pub version : (u : ℕ) → ℕ
  pub opened : (p : Product) (s : ℕ) → Bool
  pub flows : (p : Product) (s : ℕ) → List Flow

-- "It starts as a fresh engine does."
unfoldable pub start : Ledger
start = record { holds = λ u r. false; may_read = λ r d. false; forwards = λ d e. false; mandated = λ r d. false; system = 0; version = λ u. 0; opened = λ p s. false; flows = λ p s. [] }

-- two products are the same
unfoldable pub same : Product → Product → Bool
same Server Server = true
same Server TermBank = false
same TermBank Server = false
same TermBank TermBank = true

-- flow f of product p's session s; past the last flow, one that nothing reaches and that denies nothing
unfoldable pub flow_of : Ledger → Product → ℕ → ℕ → Flow
flow_of l p s f = get_or (l.flows p s) f (record { root = 0; reach = λ d. false; version = 0; deny = λ r. false })

-- at most k steps of forwarding lead from the root to d
unfoldable pub leads_within : (ℕ → ℕ → Bool) → ℕ → ℕ → ℕ → Bool
leads_within forwards root zero d = eqb d root
leads_within forwards root (suc k) d = leads_within forwards root k d || some database_count (λ c. forwards c d && leads_within forwards root k c)

-- "The reach of a flow is its root and every database that forwarding leads to from it, in one or more steps": all are passed in a step less than there are
unfoldable pub reach_of : Ledger → ℕ → ℕ → Bool
reach_of l root d = leads_within l.forwards root (database_count - 1) d

-- "A user may statically read a flow if one of the user's roles may read a database in its reach."
unfoldable pub reads : Ledger → ℕ → Flow → Bool
reads l u flow = some role_count (λ r. l.holds u r && some database_count (λ d. flow.reach d && l.may_read r d))

-- user u may statically read at least two of these flows, counted up to n of them
unfoldable pub reads_two_of : Ledger → ℕ → (ℕ → Flow) → ℕ → Bool
reads_two_of l u flow n = leb 2 (count n (λ g. reads l u (flow g)))

-- "A role c is conflicting for a session if some user holds c and may statically read at least two of its flows", with the new flow counted in
unfoldable pub is_conflicting : Ledger → Product → ℕ → Flow → ℕ → Bool
is_conflicting l p s new c =
    let flows : List Flow = l.flows p s ++ (new ∷ []) in
    some user_count (λ u. l.holds u c && reads_two_of l u (λ g. get_or flows g new) (length flows))

-- user u holds a role of the flow's deny set
unfoldable pub holds_denied : Ledger → ℕ → Flow → Bool
holds_denied l u flow = some role_count (λ r. l.holds u r && flow.deny r)

-- demand 3, second half: the user "holds a role of the flow's deny set and may read at least two flows of the session, counted up to and including that one"
unfoldable pub linked : Ledger → Product → ℕ → ℕ → ℕ → Bool
linked l p u s f = holds_denied l u (flow_of l p s f) && reads_two_of l u (flow_of l p s) (suc f)

-- K3: "A read is under a mandate if the user holds a role with a mandate at the database read."
unfoldable pub under_mandate : Ledger → ℕ → ℕ → Bool
under_mandate l u d = some role_count (λ r. l.holds u r && l.mandated r d)
