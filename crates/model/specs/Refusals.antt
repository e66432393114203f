-- Document 01's refusal table ("Returned when refused") over the ledger, with K1's two products and K3's mandates, and how the ledger takes a call.
-- Assumes nothing.
use Rattle.std.specs.Prelude.{ℕ, ◌+◌, ◌^◌, Bool, true, false, cond, not, ◌&&◌, ◌||◌, List, [], ◌∷◌, ◌++◌, leb, ltb, eqb, length}
use Rattle.sets.specs.Sets.{has, some}
use Rattle.tables.specs.Tables.{user_count, role_count, database_count}
use Rattle.model.specs.declared.calls.Change.{Change}
use Rattle.model.specs.declared.calls.Change.TheVariants.{Assign, Withdraw, Permit, Revoke, Forward, Mandate}
use Rattle.model.specs.declared.calls.Product.{Product}
use Rattle.model.specs.declared.calls.Product.TheVariants.{Server, TermBank}
use Rattle.model.specs.declared.calls.Ask.{Ask}
use Rattle.model.specs.declared.calls.Ask.TheVariants.{Open, Conflicting, Add, Show}
use Rattle.model.specs.declared.calls.Call.{Call}
use Rattle.model.specs.declared.calls.Call.TheVariants.{Table, Session, Read, Unreadable}
use Rattle.model.specs.Limits.{session_count, flow_count, last_version}
use Rattle.model.specs.Ledger.{Ledger, Flow, same, flow_of, reach_of, is_conflicting, linked, under_mandate}

-- the users who are due a new version from a change ("Tables and versions"); no other call gives one
unfoldable pub due : Ledger → Change → ℕ → Bool
due l (Assign u r) w = eqb w u
due l (Withdraw u r) w = false
due l (Permit r d) w = l.holds w r
due l (Revoke r d) w = l.holds w r
due l (Forward d e) w = false
-- "A mandate gives no new version" (K3)
due l (Mandate r d) w = false

-- 9: "a new version is due and the system version is" the last one
unfoldable pub spent : ℕ → Ledger → Change → Bool
spent last l c = some user_count (due l c) && eqb l.system last

-- 5: "some flow has been added in any session"; "Forwarding closes with the first flow of either product" (K1)
unfoldable pub flow_added : Ledger → Bool
flow_added l = some session_count (λ s. ltb 0 (length (l.flows Server s))) || some session_count (λ s. ltb 0 (length (l.flows TermBank s)))

-- the deny set of the last flow, "empty for flow 0"
unfoldable pub last_deny : List Flow → ℕ → Bool
last_deny [] r = false
last_deny (flow ∷ []) r = flow.deny r
last_deny (flow ∷ next ∷ flows) r = last_deny (next ∷ flows) r

-- the flow that an addition brings: "its root, its reach by the forwarding table now, the system version as its version,
-- and as deny set that of the flow before it joined with the chosen set"
unfoldable pub new_flow : Ledger → Product → ℕ → ℕ → ℕ → Flow
new_flow l p s root chosen = record { root = root; reach = reach_of l root; version = l.system; deny = λ r. last_deny (l.flows p s) r || has chosen r }

-- ---- the table by calls: the numbers that a call can return, in the order of its checks, and when each is met

-- 01 to 05, and 10
unfoldable pub change_rows : ℕ → Ledger → Change → List (ℕ × Bool)
change_rows last l (Assign u r) = (2, leb user_count u || leb role_count r) ∷ (3, l.holds u r) ∷ (9, spent last l (Assign u r)) ∷ []
change_rows last l (Withdraw u r) = (2, leb user_count u || leb role_count r) ∷ (4, not (l.holds u r)) ∷ []
change_rows last l (Permit r d) = (2, leb role_count r || leb database_count d) ∷ (3, l.may_read r d) ∷ (9, spent last l (Permit r d)) ∷ []
-- 15 "when a permission with a mandate on it is to be revoked, checked after 4 and before 9" (K3)
change_rows last l (Revoke r d) = (2, leb role_count r || leb database_count d) ∷ (4, not (l.may_read r d)) ∷ (15, l.mandated r d) ∷ (9, spent last l (Revoke r d)) ∷ []
-- 3 "after 5"
change_rows last l (Forward d e) = (2, leb database_count d || leb database_count e) ∷ (5, flow_added l) ∷ (3, l.forwards d e) ∷ []
-- "a pair without permission gives 4, a mandated one 3" (K3)
change_rows last l (Mandate r d) = (2, leb role_count r || leb database_count d) ∷ (3, l.mandated r d) ∷ (4, not (l.may_read r d)) ∷ []

-- 06, 07, 08, 0a of the server, and 0b, 0c, 0d, 0f of the term bank; a chosen role above its limit would make a number above 64 bits
unfoldable pub ask_rows : Ledger → Product → ℕ → Ask → List (ℕ × Bool)
ask_rows l p s Open = (2, leb session_count s) ∷ (3, l.opened p s) ∷ []
ask_rows l p s (Conflicting d) = (2, leb session_count s || leb database_count d) ∷ (6, not (l.opened p s)) ∷ (7, leb flow_count (length (l.flows p s))) ∷ []
ask_rows l p s (Add d m) =
    (2, leb session_count s || (leb database_count d || leb (2 ^ role_count) m))
    ∷ (6, not (l.opened p s))
    ∷ (7, leb flow_count (length (l.flows p s)))
    ∷ (8, some role_count (λ r. has m r && not (is_conflicting l p s (new_flow l p s d m) r)))
    ∷ []
ask_rows l p s (Show f) = (2, leb session_count s || leb flow_count f) ∷ (6, not (l.opened p s)) ∷ (10, leb (length (l.flows p s)) f) ∷ []

-- 09, and 0e: the rows that every read is held to
unfoldable pub check_rows : Ledger → Product → ℕ → ℕ → ℕ → ℕ → List (ℕ × Bool)
check_rows l p u s f d =
    (2, (leb user_count u || leb database_count d) || (leb session_count s || leb flow_count f))
    ∷ (6, not (l.opened p s))
    ∷ (10, leb (length (l.flows p s)) f)
    ∷ (11, not ((flow_of l p s f).reach d))
    ∷ (12, not (some role_count (λ r. l.holds u r && l.may_read r d)))
    ∷ []

-- then 13 and 14, which a read under a mandate passes (K3). What row 14 goes by is handed in: the ledger has its own test, and an engine goes by its stored constraint.
unfoldable pub read_rows : Ledger → (Product → ℕ → ℕ → ℕ → Bool) → Product → ℕ → ℕ → ℕ → ℕ → List (ℕ × Bool)
read_rows l links p u s f d =
    check_rows l p u s f d
    ++ ((13, not (under_mandate l u d) && ltb (flow_of l p s f).version (l.version u))
    ∷ (14, not (under_mandate l u d) && links p u s f)
    ∷ [])

unfoldable pub rows : ℕ → Ledger → (Product → ℕ → ℕ → ℕ → Bool) → Call → List (ℕ × Bool)
rows last l links (Table c) = change_rows last l c
rows last l links (Session p s a) = ask_rows l p s a
rows last l links (Read p u s f d) = read_rows l links p u s f d
rows last l links Unreadable = (1, true) ∷ []

-- the number of the first row that is met, and 0 where none is
unfoldable pub first_met : List (ℕ × Bool) → ℕ
first_met [] = 0
first_met (row ∷ rows) = cond row.1 row.0 (first_met rows)

-- the first row that the call meets, by the ledger alone, and the first before 14
unfoldable pub refusal : Ledger → Call → ℕ
refusal l c = first_met (rows last_version l (linked l) c)

unfoldable pub earlier_refusal : Ledger → Call → ℕ
earlier_refusal l c = first_met (rows last_version l (λ p u s f. false) c)

-- "It accepts a call other than a read exactly when the call meets no row"
unfoldable pub accepts : Ledger → Call → Bool
accepts l c = eqb (refusal l c) 0

-- ---- how the ledger takes a call

unfoldable pub plus : (ℕ → ℕ → Bool) → ℕ → ℕ → ℕ → ℕ → Bool
plus pairs a b c d = pairs c d || (eqb c a && eqb d b)

unfoldable pub minus : (ℕ → ℕ → Bool) → ℕ → ℕ → ℕ → ℕ → Bool
minus pairs a b c d = pairs c d && not (eqb c a && eqb d b)

-- the ledger with these tables
abbrev pub with_tables : Ledger → (ℕ → ℕ → Bool) → (ℕ → ℕ → Bool) → (ℕ → ℕ → Bool) → (ℕ → ℕ → Bool) → Ledger
with_tables l holds may_read forwards mandated = record { holds = holds; may_read = may_read; forwards = forwards; mandated = mandated; system = l.system; version = l.version; opened = l.opened; flows = l.flows }

-- "the pair is entered, or struck out for withdrawing and revoking"
unfoldable pub entered : Ledger → Change → Ledger
entered l (Assign u r) = with_tables l (plus l.holds u r) l.may_read l.forwards l.mandated
entered l (Withdraw u r) = with_tables l (minus l.holds u r) l.may_read l.forwards l.mandated
entered l (Permit r d) = with_tables l l.holds (plus l.may_read r d) l.forwards l.mandated
entered l (Revoke r d) = with_tables l l.holds (minus l.may_read r d) l.forwards l.mandated
entered l (Forward d e) = with_tables l l.holds l.may_read (plus l.forwards d e) l.mandated
entered l (Mandate r d) = with_tables l l.holds l.may_read l.forwards (plus l.mandated r d)

-- "the system version rises by one and the named users get it", if there are any
unfoldable pub renewed : Ledger → (ℕ → Bool) → Ledger
renewed l named = record {
  holds = l.holds;
  may_read = l.may_read;
  forwards = l.forwards;
  mandated = l.mandated;
  system = cond (some user_count named) (l.system + 1) l.system;
  version = λ u. cond (named u) (l.system + 1) (l.version u);
  opened = l.opened;
  flows = l.flows;
}

-- session s of product p is there, with these flows; all others are as they were
unfoldable pub with_flows : Ledger → Product → ℕ → List Flow → Ledger
with_flows l p s flows = record {
  holds = l.holds;
  may_read = l.may_read;
  forwards = l.forwards;
  mandated = l.mandated;
  system = l.system;
  version = l.version;
  opened = λ q t. l.opened q t || (same q p && eqb t s);
  flows = λ q t. cond (same q p && eqb t s) flows (l.flows q t);
}

-- what an accepted call enters
unfoldable pub asked : Ledger → Product → ℕ → Ask → Ledger
-- "the session is there, without flows"
asked l p s Open = with_flows l p s []
asked l p s (Conflicting d) = l
-- "the session gets a last flow"
asked l p s (Add d m) = with_flows l p s (l.flows p s ++ (new_flow l p s d m ∷ []))
asked l p s (Show f) = l

unfoldable pub taken : Ledger → Call → Ledger
taken l (Table c) = renewed (entered l c) (due l c)
taken l (Session p s a) = asked l p s a
taken l (Read p u s f d) = l
taken l Unreadable = l

-- "A refused call, a query or a read: it stays as it is."
unfoldable pub ledger_step : Ledger → Call → Ledger
ledger_step l c = cond (accepts l c) (taken l c) l

unfoldable pub ledger_after : Ledger → List Call → Ledger
ledger_after l [] = l
ledger_after l (c ∷ cs) = ledger_after (ledger_step l c) cs
