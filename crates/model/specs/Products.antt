-- K1, two products on one directory, by the ledger alone: the numbers that calls return. protocol/specs/Products has the whole answer lines, and the bytes.
-- Assumes nothing.
use Rattle.std.specs.Prelude.{ℕ, ◌<◌, ◌≡◌, Bool, true, false, cond, List, [], ◌∷◌, map, ◌≢◌}
use Rattle.tables.specs.Tables.{database_count}
use Rattle.model.specs.declared.calls.Change.TheVariants.{Forward}
use Rattle.model.specs.declared.calls.Product.{Product}
use Rattle.model.specs.declared.calls.Product.TheVariants.{Server, TermBank}
use Rattle.model.specs.declared.calls.Ask.TheVariants.{Add}
use Rattle.model.specs.declared.calls.Call.{Call}
use Rattle.model.specs.declared.calls.Call.TheVariants.{Table, Session, Read, Unreadable}
use Rattle.model.specs.Ledger.{Ledger, start, same}
use Rattle.model.specs.Refusals.{refusal, accepts, ledger_step}
use Rattle.model.specs.Demands.{call_at, ledger_at}

-- the call is the product's own; changes of the tables are nobody's, nor is what is no frame
unfoldable pub is_of : Product → Call → Bool
is_of p (Table c) = false
is_of p (Session q s a) = same q p
is_of p (Read q u s f d) = same q p
is_of p Unreadable = false

-- "when the other product's frames are struck out"
unfoldable pub struck : Product → List Call → List Call
struck other [] = []
struck other (c ∷ cs) = cond (is_of other c) (struck other cs) (c ∷ struck other cs)

-- the numbers that a list of calls returns, and those to the calls that are left when a product's are struck out, each where the whole list has led to
unfoldable pub numbers : Ledger → List Call → List ℕ
numbers l [] = []
numbers l (c ∷ cs) = refusal l c ∷ numbers (ledger_step l c) cs

unfoldable pub numbers_left : Product → Ledger → List Call → List ℕ
numbers_left other l [] = []
numbers_left other l (c ∷ cs) = cond (is_of other c) (numbers_left other (ledger_step l c) cs) (refusal l c ∷ numbers_left other (ledger_step l c) cs)

-- call j adds a flow
pub record Adds (cs : List Call) (j : ℕ) : Type 0 where
  pub product : Product
  pub session : ℕ
  pub root : ℕ
  pub chosen : ℕ
  pub there : call_at cs j ≡ Session product session (Add root chosen)
  pub accepted : accepts (ledger_at cs j) (call_at cs j) ≡ true

-- "every forwarding frame precedes every added flow"
abbrev pub ForwardsFirst : List Call → Type 0
ForwardsFirst cs = (i j d e : ℕ) → call_at cs i ≡ Table (Forward d e) → Adds cs j → i < j

-- the products change places
unfoldable pub opposite : Product → Product
opposite Server = TermBank
opposite TermBank = Server

unfoldable pub swap : Call → Call
swap (Table c) = Table c
swap (Session p s a) = Session (opposite p) s a
swap (Read p u s f d) = Read (opposite p) u s f d
swap Unreadable = Unreadable

pub record Products : Type 0 where
  -- "Kinds 0b to 0f do for the term bank what 06 to 0a do for the server"
  pub alike : (cs : List Call) → numbers start (map swap cs) ≡ numbers start cs
  -- "Take two lists that become equal when the other product's frames are struck out, in both of which every forwarding frame precedes every added flow:
  -- one product's answers are the same whatever the other's frames are, and so are the answers to table frames."
  pub apart : (other : Product) (cs ds : List Call) → struck other cs ≡ struck other ds → ForwardsFirst cs → ForwardsFirst ds
      → numbers_left other start cs ≡ numbers_left other start ds
  -- "Forwarding closes with the first flow of either product."
  pub closes : (cs : List Call) (i j d e : ℕ) → i < j → Adds cs i → call_at cs j ≡ Table (Forward d e) → d < database_count → e < database_count
      → refusal (ledger_at cs j) (Table (Forward d e)) ≡ 5
  -- and not before it
  pub stays : (cs : List Call) (j d e : ℕ) → ((i : ℕ) → i < j → Adds cs i → ⊥) → refusal (ledger_at cs j) (Table (Forward d e)) ≢ 5
