-- The demands for bytes and for pieces hold.
-- Assumes nothing.
use Prim.Native.Nat.{ℕ, zero, suc, ◌^◌, ◌<◌}
use mathlib.Core.Path.{◌≡◌, refl, sym, ap, ◌∙◌}
use mathlib.Core.Bool.{Bool, true, false, cond}
use mathlib.Core.List.{List, [], ◌∷◌, ◌++◌, append-nil, append_assoc}
use native.Mathlib.Omega.{arith}
use lib.Dec.{ltb}
use lib.ListN.{length, get_or, take, drop}
use borrow.Author.Tests.{ltb-false}
use Rattle.model.specs.declared.Engine.{Engine}
use Rattle.model.specs.declared.calls.Call.{Call}
use Rattle.model.specs.declared.calls.Call.TheVariants.{Unreadable}
use Rattle.model.specs.State.{fresh}
use Rattle.model.specs.Calls.{after}
use Rattle.model.specs.Demands.{engine_after, call_at, engine_at}
use Rattle.model.proofs.Seen.{demand1}
use Rattle.model.proofs.Demands.{demand3}
use Rattle.protocol.specs.Widths.{version_digits, kept}
use Rattle.protocol.specs.Specification.{in_digits}
use Rattle.protocol.specs.Digits.{number}
use Rattle.protocol.specs.Run.{calls_of, reply, replies, run, Fed, wrote, fed, feed_at, kept_of}
use Rattle.protocol.proofs.Laws.{hex_length, more, run_more, more_end, more_capped, fed_more, fed_left, fed_shorter, no_feed_of, feed_at_le}
use Rattle.protocol.proofs.Spelling.{hex_digits, number_hex}
use Rattle.protocol.specs.Demands.{VersionsTold, ByteDemands, Piece, all_bytes, fed_all, InPieces, Progress}

-- a number that has so many digits is told by them
told_by : (n v w : ℕ) → v < 16 ^ n → w < 16 ^ n → in_digits n v ≡ in_digits n w → v ≡ w
told_by n v w a b h = sym (number_hex n v a) ∙ ap number (hex_digits n v ∙ h ∙ sym (hex_digits n w)) ∙ number_hex n w b

pub versions_told : VersionsTold
versions_told = record {
  eight = λ v. sym (ap length (hex_digits version_digits v)) ∙ hex_length version_digits v;
  apart = λ v w a b h. told_by version_digits v w (omega (arith, a)) (omega (arith, b)) h;
}

-- one call's answer among those of a list
answer_of : (e : Engine) (cs : List Call) (i : ℕ) → i < length cs
    → replies e cs ≡ replies e (take i cs) ++ (reply (engine_after e (take i cs)) (get_or cs i Unreadable) ++ replies (engine_after e (take (suc i) cs)) (drop (suc i) cs))
unfolding replies engine_after
answer_of e [] i l = absurd (omega arith)
answer_of e (c ∷ cs) zero l = refl
answer_of e (c ∷ cs) (suc i) l = ap (λ (bytes : List ℕ). reply e c ++ bytes) (answer_of (after e c) cs i (omega arith)) ∙ sym (append_assoc (reply e c) _ _)

pub byte_demands : (input : List ℕ) → ByteDemands input
unfolding run call_at engine_at
byte_demands input = record {
  three = demand3 (calls_of input);
  one = λ i l. demand1 _ _;
  answered = λ i l. answer_of fresh (calls_of input) i l;
}

-- what is kept of a piece is as good as what is left of it
more_kept : (e : Engine) (left rest : List ℕ) → more e (kept_of left ++ rest) ≡ more e (left ++ rest)
unfolding kept_of
more_kept e left rest = go (ltb (feed_at left) (length left)) refl
  where
    go : (t : Bool) → ltb (feed_at left) (length left) ≡ t → more e (cond t left (take kept left) ++ rest) ≡ more e (left ++ rest)
    go true q = refl
    go false q = more_capped e left rest (no_feed_of left (omega (arith, ltb-false (feed_at left) (length left) q, feed_at_le left)))

any_pieces : (e : Engine) (left : List ℕ) (ps : List Piece) → more e (left ++ all_bytes ps) ≡ (fed_all e left ps).written ++ more (fed_all e left ps).engine (fed_all e left ps).left
unfolding all_bytes fed_all wrote
any_pieces e left [] = rw append-nil
any_pieces e left (p ∷ ps) =
    ap (more e) (sym (append_assoc left p.bytes (all_bytes ps)))
    ∙ fed_more p.room e (left ++ p.bytes) (all_bytes ps)
    ∙ ap (λ (bytes : List ℕ). x.written ++ bytes) (sym (more_kept x.engine x.left (all_bytes ps)) ∙ any_pieces x.engine (kept_of x.left) ps)
    ∙ sym (append_assoc x.written _ _)
  where
    x : Fed
    x = fed p.room e (left ++ p.bytes)

pub in_pieces : (ps : List Piece) → InPieces ps
in_pieces ps = record {
  whole = λ q. run_more (all_bytes ps) ∙ any_pieces fresh [] ps ∙ ap (λ (bytes : List ℕ). (fed_all fresh [] ps).written ++ bytes) (more_end _ _ (no_feed_of (fed_all fresh [] ps).left q));
}

pub progress : (room : ℕ) (e : Engine) (bytes : List ℕ) → Progress room e bytes
progress room e bytes = record { left = (fed_left room e bytes).1; shorter = fed_shorter room e bytes }
