-- "Returned when refused": the refusal table as it is printed, row by row, with the kinds that its third column names. `Refusals` has when each row is met, call by call.
-- Assumes nothing.
use Rattle.std.specs.Prelude.{ℕ, ◌≡◌, Bool, false, cond, ◌||◌, List, [], ◌∷◌, map, eqb}
use Rattle.model.specs.declared.calls.Change.TheVariants.{Assign, Withdraw, Permit, Revoke, Forward, Mandate}
use Rattle.model.specs.declared.calls.Product.{Product}
use Rattle.model.specs.declared.calls.Product.TheVariants.{Server, TermBank}
use Rattle.model.specs.declared.calls.Ask.TheVariants.{Open, Conflicting, Add, Show}
use Rattle.model.specs.declared.calls.Call.{Call}
use Rattle.model.specs.declared.calls.Call.TheVariants.{Table, Session, Read, Unreadable}
use Rattle.model.specs.Ledger.{Ledger}
use Rattle.model.specs.Refusals.{rows}

pub record Row : Type 0 where
  pub number : ℕ
  pub kinds : List ℕ

abbrev row : ℕ → List ℕ → Row
row number kinds = record { number = number; kinds = kinds }

-- what is no frame has no kind
abbrev no_kind : ℕ
no_kind = 0x00

abbrev all_kinds : List ℕ
all_kinds = 0x01 ∷ 0x02 ∷ 0x03 ∷ 0x04 ∷ 0x05 ∷ 0x06 ∷ 0x07 ∷ 0x08 ∷ 0x09 ∷ 0x0a ∷ 0x0b ∷ 0x0c ∷ 0x0d ∷ 0x0e ∷ 0x0f ∷ 0x10 ∷ []

unfoldable pub table : List Row
table =
    -- "unknown kind, wrong length, another byte than 0–9 a–f, or no line feed at the end of input"
    row 1 (no_kind ∷ [])
    -- "a role, database, session or flow number above its limit"
    ∷ row 2 all_kinds
    -- "the pair or session is there already"
    ∷ row 3 (0x01 ∷ 0x03 ∷ 0x05 ∷ 0x06 ∷ 0x0b ∷ 0x10 ∷ [])
    -- "the pair isn't there"
    ∷ row 4 (0x02 ∷ 0x04 ∷ 0x10 ∷ [])
    -- "some flow has been added in any session"
    ∷ row 5 (0x05 ∷ [])
    -- "the session isn't open"
    ∷ row 6 (0x07 ∷ 0x08 ∷ 0x09 ∷ 0x0a ∷ 0x0c ∷ 0x0d ∷ 0x0e ∷ 0x0f ∷ [])
    -- "the session has 8 flows"
    ∷ row 7 (0x07 ∷ 0x08 ∷ 0x0c ∷ 0x0d ∷ [])
    -- "a chosen role isn't conflicting"
    ∷ row 8 (0x08 ∷ 0x0d ∷ [])
    -- "a new version is due and the system version is" the last one
    ∷ row 9 (0x01 ∷ 0x03 ∷ 0x04 ∷ [])
    -- "the session has no flow of that number"
    ∷ row 10 (0x09 ∷ 0x0a ∷ 0x0e ∷ 0x0f ∷ [])
    -- "the database isn't in the flow's reach"
    ∷ row 11 (0x09 ∷ 0x0e ∷ [])
    -- "no role of the user may read that database"
    ∷ row 12 (0x09 ∷ 0x0e ∷ [])
    -- "changed"
    ∷ row 13 (0x09 ∷ 0x0e ∷ [])
    -- "linkable"
    ∷ row 14 (0x09 ∷ 0x0e ∷ [])
    -- "a permission with a mandate on it is to be revoked"
    ∷ row 15 (0x04 ∷ [])
    ∷ []

-- the kind of a call's frame
unfoldable pub kind_of : Call → ℕ
kind_of (Table (Assign u r)) = 0x01
kind_of (Table (Withdraw u r)) = 0x02
kind_of (Table (Permit r d)) = 0x03
kind_of (Table (Revoke r d)) = 0x04
kind_of (Table (Forward d e)) = 0x05
kind_of (Table (Mandate r d)) = 0x10
kind_of (Session Server s Open) = 0x06
kind_of (Session Server s (Conflicting d)) = 0x07
kind_of (Session Server s (Add d m)) = 0x08
kind_of (Session Server s (Show f)) = 0x0a
kind_of (Session TermBank s Open) = 0x0b
kind_of (Session TermBank s (Conflicting d)) = 0x0c
kind_of (Session TermBank s (Add d m)) = 0x0d
kind_of (Session TermBank s (Show f)) = 0x0f
kind_of (Read Server u s f d) = 0x09
kind_of (Read TermBank u s f d) = 0x0e
kind_of Unreadable = no_kind

-- the kind is among these
unfoldable pub among : ℕ → List ℕ → Bool
among kind [] = false
among kind (k ∷ kinds) = eqb kind k || among kind kinds

-- the numbers of the rows that name the kind, in the order of the table
unfoldable pub column : ℕ → List Row → List ℕ
column kind [] = []
column kind (r ∷ rs) = cond (among kind r.kinds) (r.number ∷ column kind rs) (column kind rs)

-- where a number is, another comes first
unfoldable pub first_before : ℕ → ℕ → List ℕ → List ℕ
first_before n m [] = []
first_before n m (x ∷ xs) = cond (eqb x m) (n ∷ m ∷ first_before n m xs) (cond (eqb x n) (first_before n m xs) (x ∷ first_before n m xs))

-- "Checks run in the order of the rows, except where a row says otherwise": forwarding, 3 "after 5"; revoking, 15 "after 4 and before 9"
unfoldable pub checks : ℕ → List ℕ
checks kind = cond (eqb kind 0x05) (first_before 5 3 (column kind table)) (cond (eqb kind 0x04) (first_before 15 9 (column kind table)) (column kind table))

-- Each call's checks are the rows that name its kind, in that order, whatever the ledger.
abbrev pub Tabled : Type 0
Tabled = (last : ℕ) (l : Ledger) (links : Product → ℕ → ℕ → ℕ → Bool) (c : Call) → map (λ check. check.0) (rows last l links c) ≡ checks (kind_of c)
