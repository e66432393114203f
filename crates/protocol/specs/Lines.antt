-- What a line says, and how an answer is written (document 01, "Frames"). A line is the list of its bytes, without its line feed.
-- Assumes nothing.
use Rattle.std.specs.Prelude.{ℕ, zero, suc, ◌+◌, ◌*◌, cond, ◌&&◌, ◌||◌, List, [], ◌∷◌, ◌++◌, eqb, leb, length, get_or, take, drop}
use Rattle.model.specs.declared.Constraint.{Constraint}
use Rattle.model.specs.declared.calls.Change.TheVariants.{Assign, Withdraw, Permit, Revoke, Forward, Mandate}
use Rattle.model.specs.declared.calls.Product.TheVariants.{Server, TermBank}
use Rattle.model.specs.declared.calls.Ask.TheVariants.{Open, Conflicting, Add, Show}
use Rattle.model.specs.declared.calls.Call.{Call}
use Rattle.model.specs.declared.calls.Call.TheVariants.{Table, Session, Read, Unreadable}
use Rattle.model.specs.declared.calls.Answer.{Answer}
use Rattle.model.specs.declared.calls.Answer.TheVariants.{Version, Roles, Flow, Granted, Constraint as Answer-as-Constraint, Refused}
use Rattle.model.specs.Calls.{returned, verdict_of}
use Rattle.protocol.specs.Widths.{field_digits, version_digits, set_digits}
use Rattle.protocol.specs.Digits.{all_digits, number, hex}

-- ---- reading

-- field i of the rest of a line
unfoldable pub field : List ℕ → ℕ → ℕ
field rest zero = number (take field_digits rest)
field rest (suc i) = field (drop field_digits rest) i

-- as many digits as n fields have
abbrev pub fields : ℕ → ℕ
fields n = field_digits * n

-- how many digits stand after the kind; 0 after an unknown one
unfoldable pub rest_digits : ℕ → ℕ
rest_digits kind =
    cond (eqb kind 0x06 || eqb kind 0x0b) (fields 1)
    (cond (eqb kind 0x08 || eqb kind 0x0d) (fields 2 + set_digits)
    (cond (eqb kind 0x09 || eqb kind 0x0e) (fields 4)
    (cond (leb 0x01 kind && leb kind 0x10) (fields 2) 0)))

-- the call of this kind with these fields, and with this role set where it has one
unfoldable pub called_by : ℕ → (ℕ → ℕ) → ℕ → Call
called_by kind field set =
    -- 01 uu rr
    cond (eqb kind 0x01) (Table (Assign (field 0) (field 1)))
    -- 02 uu rr
    (cond (eqb kind 0x02) (Table (Withdraw (field 0) (field 1)))
    -- 03 rr dd
    (cond (eqb kind 0x03) (Table (Permit (field 0) (field 1)))
    -- 04 rr dd
    (cond (eqb kind 0x04) (Table (Revoke (field 0) (field 1)))
    -- 05 dd ee
    (cond (eqb kind 0x05) (Table (Forward (field 0) (field 1)))
    -- 06 ss
    (cond (eqb kind 0x06) (Session Server (field 0) Open)
    -- 07 ss dd
    (cond (eqb kind 0x07) (Session Server (field 0) (Conflicting (field 1)))
    -- 08 ss dd M
    (cond (eqb kind 0x08) (Session Server (field 0) (Add (field 1) set))
    -- 09 uu ss ff dd
    (cond (eqb kind 0x09) (Read Server (field 0) (field 1) (field 2) (field 3))
    -- 0a ss ff
    (cond (eqb kind 0x0a) (Session Server (field 0) (Show (field 1)))
    -- 0b ss
    (cond (eqb kind 0x0b) (Session TermBank (field 0) Open)
    -- 0c ss dd
    (cond (eqb kind 0x0c) (Session TermBank (field 0) (Conflicting (field 1)))
    -- 0d ss dd M
    (cond (eqb kind 0x0d) (Session TermBank (field 0) (Add (field 1) set))
    -- 0e uu ss ff dd
    (cond (eqb kind 0x0e) (Read TermBank (field 0) (field 1) (field 2) (field 3))
    -- 0f ss ff
    (cond (eqb kind 0x0f) (Session TermBank (field 0) (Show (field 1)))
    -- 10 rr dd
    (cond (eqb kind 0x10) (Table (Mandate (field 0) (field 1)))
    -- "unknown kind"
    Unreadable)))))))))))))))

-- the call of this kind whose fields are the rest of the line
unfoldable pub called : ℕ → List ℕ → Call
called kind rest = called_by kind (field rest) (number (drop (fields 2) rest))

-- what a frame of this kind says: where the rest has as many digits as its fields
unfoldable pub frame : ℕ → List ℕ → Call
frame kind rest = cond (eqb (length rest) (rest_digits kind)) (called kind rest) Unreadable

-- the call that a line is: "Two digits give the kind; fields after the kind are taken from the rest of the line"
unfoldable pub call_of : List ℕ → Call
call_of line = cond (all_digits line) (frame (number (take field_digits line)) (drop field_digits line)) Unreadable

-- ---- writing

abbrev pub line_feed : ℕ
line_feed = 10

-- n role sets, from flow 0 on
unfoldable pub role_sets : ℕ → List ℕ → List ℕ
role_sets zero sets = []
role_sets (suc n) sets = role_sets n sets ++ hex set_digits (get_or sets n 0)

-- what follows the first two digits: "for 01–06 the system version"; "for 07 the role set; for 08 flow number, count of databases in the reach
-- in two digits each, version; for 09 nothing; for 0a version, deny set, then the role sets from flow 0 on"; "nothing but the number is returned" by a refusal.
-- The constraint is that of the flow that an answer shows.
unfoldable pub values : Answer → Constraint → List ℕ
values (Version v) c = hex version_digits v
values (Roles m) c = hex set_digits m
values (Flow n k v) c = hex field_digits n ++ (hex field_digits k ++ hex version_digits v)
values Granted c = []
values (Answer-as-Constraint s f) c = hex version_digits c.version ++ (hex set_digits c.deny ++ role_sets (suc f) c.roles)
values (Refused why) c = []

-- how many role sets an answer shows
unfoldable pub shown_sets : Answer → ℕ
shown_sets (Version v) = 0
shown_sets (Roles m) = 0
shown_sets (Flow n k v) = 0
shown_sets Granted = 0
shown_sets (Answer-as-Constraint s f) = suc f
shown_sets (Refused why) = 0

-- the line of an answer, with its line feed: "two hexadecimal digits (00 accepted, else the number refused)"
unfoldable pub line_of : Answer → Constraint → List ℕ
line_of a c = hex field_digits (returned (verdict_of a)) ++ (values a c ++ (line_feed ∷ []))
