-- What the program may write, for every input: document 01's "Frames" with K1's and K3's, over the ledger of demand 3 and its rows.
-- This text names nothing of the engine, of the decoder or of the encoder. `Exact` says that the program's output is the one it allows.
-- Assumes nothing.
use Rattle.std.specs.Prelude.{ℕ, zero, suc, ◌+◌, ◌/◌, ◌%◌, ◌^◌, ◌<◌, ◌≡◌, Bool, false, cond, not, ◌&&◌, List, [], ◌∷◌, ◌++◌, ◌≢◌, ltb, length, get_or}
use Rattle.sets.specs.Sets.{has, some, count}
use Rattle.tables.specs.Tables.{user_count, role_count, database_count}
use Rattle.model.specs.declared.calls.Change.TheVariants.{Assign, Withdraw, Permit, Revoke, Forward, Mandate}
use Rattle.model.specs.declared.calls.Product.{Product}
use Rattle.model.specs.declared.calls.Product.TheVariants.{Server, TermBank}
use Rattle.model.specs.declared.calls.Ask.TheVariants.{Open, Conflicting, Add, Show}
use Rattle.model.specs.declared.calls.Call.{Call}
use Rattle.model.specs.declared.calls.Call.TheVariants.{Table, Session, Read, Unreadable}
use Rattle.model.specs.Ledger.{Ledger, Flow, start, flow_of, reach_of, is_conflicting}
use Rattle.model.specs.Refusals.{refusal, accepts, new_flow, taken, ledger_step}
use Rattle.protocol.specs.Widths.{field_digits, version_digits, set_digits}

-- ---- numbers and sets in digits

-- "lower-case hexadecimal digits": the bytes of 0 to 9, then of a to f
unfoldable pub digits : List ℕ
digits = 0x30 ∷ 0x31 ∷ 0x32 ∷ 0x33 ∷ 0x34 ∷ 0x35 ∷ 0x36 ∷ 0x37 ∷ 0x38 ∷ 0x39 ∷ 0x61 ∷ 0x62 ∷ 0x63 ∷ 0x64 ∷ 0x65 ∷ 0x66 ∷ []

-- a number in n digits, the highest first
unfoldable pub in_digits : ℕ → ℕ → List ℕ
in_digits zero v = []
in_digits (suc n) v = in_digits n (v / 16) ++ (get_or digits (v % 16) 0 ∷ [])

-- "two digits each", and a version's "eight digits in every answer" (K4)
abbrev pub two : ℕ → List ℕ
two v = in_digits field_digits v

abbrev pub version : ℕ → List ℕ
version v = in_digits version_digits v

-- the number whose bit r is 1 for each r below n that is in the set
unfoldable pub bits : ℕ → (ℕ → Bool) → ℕ
bits zero set = 0
bits (suc n) set = cond (set n) (2 ^ n) 0 + bits n set

-- "M is sixteen digits, a role set, role 0 the lowest bit."
unfoldable pub M : (ℕ → Bool) → List ℕ
M set = in_digits set_digits (bits role_count set)

-- ---- frames

-- the table of frames. "Two digits give the kind"; "uu user, rr role, dd and ee databases, ss session, ff flow: two digits each"
unfoldable pub spelled : Call → List ℕ
spelled (Table (Assign u r)) = two 0x01 ++ (two u ++ two r)
spelled (Table (Withdraw u r)) = two 0x02 ++ (two u ++ two r)
spelled (Table (Permit r d)) = two 0x03 ++ (two r ++ two d)
spelled (Table (Revoke r d)) = two 0x04 ++ (two r ++ two d)
spelled (Table (Forward d e)) = two 0x05 ++ (two d ++ two e)
spelled (Session Server s Open) = two 0x06 ++ two s
spelled (Session Server s (Conflicting d)) = two 0x07 ++ (two s ++ two d)
spelled (Session Server s (Add d m)) = two 0x08 ++ (two s ++ (two d ++ M (has m)))
spelled (Read Server u s f d) = two 0x09 ++ (two u ++ (two s ++ (two f ++ two d)))
spelled (Session Server s (Show f)) = two 0x0a ++ (two s ++ two f)
-- "Kinds 0b to 0f do for the term bank what 06 to 0a do for the server, field by field" (K1)
spelled (Session TermBank s Open) = two 0x0b ++ two s
spelled (Session TermBank s (Conflicting d)) = two 0x0c ++ (two s ++ two d)
spelled (Session TermBank s (Add d m)) = two 0x0d ++ (two s ++ (two d ++ M (has m)))
spelled (Read TermBank u s f d) = two 0x0e ++ (two u ++ (two s ++ (two f ++ two d)))
spelled (Session TermBank s (Show f)) = two 0x0f ++ (two s ++ two f)
-- "Kind 10 with rr dd puts a mandate on a permitted pair" (K3)
spelled (Table (Mandate r d)) = two 0x10 ++ (two r ++ two d)
spelled Unreadable = []

-- a number that two digits hold, and a set that sixteen hold
abbrev pub Field : ℕ → Type 0
Field v = v < 16 ^ field_digits

abbrev pub Set : ℕ → Type 0
Set m = m < 16 ^ set_digits

-- the calls that have a frame
abbrev pub HasFrame : Call → Type 0
HasFrame (Table (Assign u r)) = Field u × Field r
HasFrame (Table (Withdraw u r)) = Field u × Field r
HasFrame (Table (Permit r d)) = Field r × Field d
HasFrame (Table (Revoke r d)) = Field r × Field d
HasFrame (Table (Forward d e)) = Field d × Field e
HasFrame (Table (Mandate r d)) = Field r × Field d
HasFrame (Session p s Open) = Field s
HasFrame (Session p s (Conflicting d)) = Field s × Field d
HasFrame (Session p s (Add d m)) = Field s × Field d × Set m
HasFrame (Read p u s f d) = Field u × Field s × Field f × Field d
HasFrame (Session p s (Show f)) = Field s × Field f
HasFrame Unreadable = ⊥

-- ---- input as lines

-- what a line says: the call whose frame it is; a line that is no call's frame ("unknown kind, wrong length, another byte than 0–9 a–f") is malformed
pub data Says : List ℕ → Call → Type 0 where
  frame : (c : Call) → HasFrame c → Says (spelled c) c
  malformed : (line : List ℕ) → ((c : Call) → HasFrame c → line ≢ spelled c) → Says line Unreadable

abbrev pub line_feed : ℕ
line_feed = 0x0a

pub data Feedless : List ℕ → Type 0 where
  none : Feedless []
  byte : {b : ℕ} {bs : List ℕ} → b ≢ line_feed → Feedless bs → Feedless (b ∷ bs)

-- the calls that an input says, line by line: "One frame a line, .. and one line feed"
pub data Input : List ℕ → List Call → Type 0 where
  -- "Empty input has no answer lines."
  ended : Input [] []
  line : (bytes : List ℕ) (c : Call) (rest : List ℕ) (cs : List Call) → Feedless bytes → Says bytes c → Input rest cs → Input (bytes ++ (line_feed ∷ rest)) (c ∷ cs)
  -- "no line feed at the end of input": malformed, whatever stands there
  unended : (rest : List ℕ) → Feedless rest → rest ≢ [] → Input rest (Unreadable ∷ [])

-- ---- the ledger, and beside it the role sets, which the ledger does not hold

pub record Book : Type 0 where
  pub ledger : Ledger
  -- of product p's session s and its flow f: role r is in the role set for flow g
  pub sets : (p : Product) (s f g r : ℕ) → Bool

-- "Role o overlaps role r if some user holds both; .. Then r is a parent of o."
unfoldable pub is_parent : Ledger → ℕ → ℕ → Bool
is_parent l r o = some user_count (λ u. l.holds u o && l.holds u r)

-- "the roles that may, at this addition, read a database in that flow's reach and are a parent of some role in the deny set"
unfoldable pub in_role_set : Ledger → Flow → Flow → ℕ → Bool
in_role_set l new that r = some database_count (λ d. that.reach d && l.may_read r d) && some role_count (λ o. new.deny o && is_parent l r o)

-- a flow that is there now and was not before gets its role sets by the ledger now, whose tables are those of the addition; "older constraints stay"
unfoldable pub sets_now : Book → Ledger → (p : Product) (s f g r : ℕ) → Bool
sets_now b now p s f g =
    cond (not (ltb f (length (b.ledger.flows p s))) && ltb f (length (now.flows p s))) (in_role_set now (flow_of now p s f) (flow_of now p s g)) (b.sets p s f g)

-- after a call
unfoldable pub next : Book → Call → Book
next b c = record { ledger = ledger_step b.ledger c; sets = sets_now b (ledger_step b.ledger c) }

-- before the first call there is no flow, so there are no role sets
unfoldable pub blank : Book
blank = record { ledger = start; sets = λ p s f g r. false }

-- ---- answers

-- n role sets, from flow 0 on
unfoldable pub sets_of : ℕ → (ℕ → ℕ → Bool) → List ℕ
sets_of zero sets = []
sets_of (suc n) sets = sets_of n sets ++ M (sets n)

-- "and if accepted: .."
unfoldable pub told : Book → Call → List ℕ
-- "for 01–06 the system version"; a mandate is "answered like kinds 01 to 06" (K3)
told b (Table c) = version (taken b.ledger (Table c)).system
told b (Session p s Open) = version (taken b.ledger (Session p s Open)).system
-- "for 07 the role set": the conflicting roles "with a flow of root dd counted in but not added"
told b (Session p s (Conflicting d)) = M (is_conflicting b.ledger p s (new_flow b.ledger p s d 0))
-- "for 08 flow number, count of databases in the reach (1 to 64) in two digits each, version"
told b (Session p s (Add d m)) = two (length (b.ledger.flows p s)) ++ (two (count database_count (reach_of b.ledger d)) ++ version b.ledger.system)
-- "for 09 nothing"
told b (Read p u s f d) = []
-- "for 0a version, deny set, then the role sets from flow 0 on"
told b (Session p s (Show f)) = version (flow_of b.ledger p s f).version ++ (M (flow_of b.ledger p s f).deny ++ sets_of (suc f) (b.sets p s f))
told b Unreadable = []

-- "Each line gets one answer line, ended by a line feed: two hexadecimal digits (00 accepted, else the number refused), and if accepted: .."
unfoldable pub answer_line : Book → Call → List ℕ
answer_line b c = two (refusal b.ledger c) ++ (cond (accepts b.ledger c) (told b c) [] ++ (line_feed ∷ []))

-- each call is answered as the ones before it left the book
unfoldable pub answers : Book → List Call → List ℕ
answers b [] = []
answers b (c ∷ cs) = answer_line b c ++ answers (next b c) cs

-- ---- the whole: an input allows an output

abbrev pub Output : List ℕ → List ℕ → Type 0
Output input output = (cs : List Call) × Input input cs × (output ≡ answers blank cs)
