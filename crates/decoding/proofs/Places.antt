-- Laws of lines: the next line of an input.
-- Assumes nothing.
use Prim.Native.Nat.{ℕ, ◌+◌, ◌^◌, ◌≤◌, ◌<◌}
use mathlib.Core.Path.{◌≡◌, refl, sym, ◌∙◌}
use mathlib.Core.Bool.{Bool, true, false, cond}
use mathlib.Core.List.{List}
use native.Mathlib.Omega.{arith}
use mir.Syntax.{w64}
use mir.Val.{Fits}
use lib.Dec.{ltb}
use lib.ListN.{length, drop, length-drop, drop_of_length-le}
use Rattle.std.specs.Prelude.{Option, Some, None, option_map}
use Rattle.std.specs.List.{slice_range}
use borrow.Author.Tests.{le-ltb}
use Rattle.model.specs.declared.calls.Call.TheVariants.{Unreadable}
use Rattle.protocol.specs.Run.{feed_at}
use Rattle.pieces.specs.Pieces.{feed_from}
use Rattle.decoding.specs.declared.read.Frame.{Frame}
use Rattle.decoding.specs.declared.lines.NextLine.{NextLine}
use Rattle.decoding.specs.Frames.{frame_if, frame_by, line_by, next_by}
use Rattle.decoding.proofs.Reading.{to_end, frame_within}

-- ---- the next line, by any two tables

pub next_past : (high low s : List ℕ) (at : ℕ) → length s < at → None ≡ next_by high low s at
unfolding next_by line_by frame_by frame_if
next_past high low s at h =
    let l : length s ≤ at = omega arith in
    let none : frame_by high low (drop at s) ≡ None = rw (drop_of_length-le s {i = at} l) in
    rw none (rw (le-ltb (at + feed_at (drop at s)) (length s) (omega arith)) refl)

-- where no frame is, it ends at the next line feed
other_line : (s : List ℕ) (at : ℕ) → line_by s at None ≡ option_map (λ (n : ℕ). record { call = Unreadable; end = n }) (feed_from s at)
unfolding line_by feed_from
other_line s at = go (ltb (at + feed_at (drop at s)) (length s)) (at + feed_at (drop at s))
  where
    go : (t : Bool) (n : ℕ) → ◌≡◌ {A = Option NextLine} (cond t (Some (record { call = Unreadable; end = n })) None) (option_map (λ (i : ℕ). record { call = Unreadable; end = i }) (cond t (Some n) None))
    go true n = refl
    go false n = refl

module _ (high low s rest : List ℕ) (at : ℕ) {r : Option Frame} (within : at ≤ length s) (part : rest ≡ slice_range s at (length s)) (read : r ≡ frame_by high low rest) where
  here : r ≡ frame_by high low (drop at s)
  here = rw (part, to_end at s within) at read

  module _ {f : Frame} (found : r ≡ Some f) where
    pub next_fits : length s < 2 ^ 64 → Fits w64 (at + f.digits)
    next_fits l = record { fits = omega (arith, frame_within high low (drop at s) (sym found ∙ here), length-drop at s) }

    pub next_frame : ◌≡◌ {A = Option NextLine} (Some (record { call = f.call; end = at + f.digits })) (next_by high low s at)
    unfolding next_by line_by
    next_frame = rw (← here, found)

  module _ (other : r ≡ None) {place : Option ℕ} (end : place ≡ feed_from s at) where
    after : next_by high low s at ≡ option_map (λ (n : ℕ). record { call = Unreadable; end = n }) place
    unfolding next_by
    after = rw (← here, other, end) (other_line s at)

    pub next_other : {e : ℕ} → place ≡ Some e → ◌≡◌ {A = Option NextLine} (Some (record { call = Unreadable; end = e })) (next_by high low s at)
    next_other q = rw q at (sym after)

    pub next_none : place ≡ None → ◌≡◌ {A = Option NextLine} None (next_by high low s at)
    next_none q = rw q at (sym after)
