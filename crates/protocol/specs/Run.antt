-- The whole run of the program: input bytes to output bytes. And the same as a machine that takes its input piece by piece.
-- Assumes nothing.
use Rattle.std.specs.Prelude.{ℕ, suc, ◌-◌, cond, List, [], ◌∷◌, ◌++◌, map, eqb, ltb, length, take}
use Rattle.model.specs.declared.Constraint.{Constraint}
use Rattle.model.specs.declared.Sessions.{Sessions}
use Rattle.model.specs.declared.Engine.{Engine}
use Rattle.model.specs.declared.calls.Call.{Call}
use Rattle.model.specs.declared.calls.Call.TheVariants.{Unreadable}
use Rattle.model.specs.declared.calls.Answer.{Answer}
use Rattle.model.specs.declared.calls.Answer.TheVariants.{Version, Roles, Flow, Granted, Constraint as Answer-as-Constraint, Refused}
use Rattle.model.specs.State.{fresh}
use Rattle.model.specs.Calls.{after, answer, constraint_at}
use Rattle.protocol.specs.Widths.{kept, longest}
use Rattle.protocol.specs.Lines.{call_of, line_of, line_feed}

-- ---- input as lines

-- the lines that end with a line feed, without it, and what stands after the last line feed
pub record Split : Type 0 where
  pub lines : List (List ℕ)
  pub rest : List ℕ

-- byte b, then this
unfoldable pub with_byte : ℕ → Split → Split
with_byte b s = record { lines = in_front s.lines; rest = in_rest s.lines }
  where
    in_front : List (List ℕ) → List (List ℕ)
    in_front [] = []
    in_front (line ∷ more) = (b ∷ line) ∷ more

    in_rest : List (List ℕ) → List ℕ
    in_rest [] = b ∷ s.rest
    in_rest (line ∷ more) = s.rest

-- split at line feeds
unfoldable pub split : List ℕ → Split
split [] = record { lines = []; rest = [] }
split (b ∷ bs) =
    let s : Split = split bs in
    cond (eqb b line_feed) (record { lines = [] ∷ s.lines; rest = s.rest }) (with_byte b s)

-- "no line feed at the end of input" is malformed; nothing after the last line feed is no line
unfoldable pub last_call : List ℕ → List Call
last_call [] = []
last_call (b ∷ bs) = Unreadable ∷ []

-- the calls that an input is
unfoldable pub calls_of : List ℕ → List Call
calls_of input = map call_of (split input).lines ++ last_call (split input).rest

-- ---- answers

-- what a constraint is where none is shown
abbrev pub no_constraint : Constraint
no_constraint = record { version = 0; deny = 0; roles = [] }

-- the constraint that an answer shows
unfoldable pub shown_in : Sessions → Answer → Constraint
shown_in S (Version v) = no_constraint
shown_in S (Roles m) = no_constraint
shown_in S (Flow n k v) = no_constraint
shown_in S Granted = no_constraint
shown_in S (Answer-as-Constraint s f) = constraint_at S s f
shown_in S (Refused why) = no_constraint

-- "Each line gets one answer line"
unfoldable pub reply : Engine → Call → List ℕ
reply e c = line_of (answer e c) (shown_in e.sessions (answer e c))

-- each call answered on the engine as the one before left it
unfoldable pub replies : Engine → List Call → List ℕ
replies e [] = []
replies e (c ∷ cs) = reply e c ++ replies (after e c) cs

-- the run of the program, from a fresh engine
unfoldable pub run : List ℕ → List ℕ
run input = replies fresh (calls_of input)

-- ---- the machine: it takes a piece of input line by line, as far as there are whole lines in it and room for their answers

-- what it has written of a piece, the engine after that, and what it has left of the piece, from the start of a line on
pub record Fed : Type 0 where
  pub written : List ℕ
  pub engine : Engine
  pub left : List ℕ

unfoldable pub wrote : List ℕ → Fed → Fed
wrote bytes x = record { written = bytes ++ x.written; engine = x.engine; left = x.left }

-- with this line begun: at its line feed it is answered, where the longest answer has room
unfoldable pub fed_from : ℕ → Engine → List ℕ → List ℕ → Fed
fed_from room e line [] = record { written = []; engine = e; left = line }
fed_from room e line (b ∷ bs) =
    cond (eqb b line_feed)
    (cond (ltb room longest) (record { written = []; engine = e; left = line ++ (b ∷ bs) })
    (let answered : List ℕ = reply e (call_of line) in wrote answered (fed_from (room - length answered) (after e (call_of line)) [] bs)))
    (fed_from room e (line ++ (b ∷ [])) bs)

unfoldable pub fed : ℕ → Engine → List ℕ → Fed
fed room e bytes = fed_from room e [] bytes

-- how many bytes stand before the first line feed
unfoldable pub feed_at : List ℕ → ℕ
feed_at [] = 0
feed_at (b ∷ bs) = cond (eqb b line_feed) 0 (suc (feed_at bs))

-- what has to be kept of what is left: all of it, or the first bytes of a line that has no line feed yet
unfoldable pub kept_of : List ℕ → List ℕ
kept_of left = cond (ltb (feed_at left) (length left)) left (take kept left)

-- what is written at the end of input: a line that has begun lacks its line feed
unfoldable pub finish : Engine → List ℕ → List ℕ
finish e line = replies e (last_call line)
