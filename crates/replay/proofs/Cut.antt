-- What is behind the first byte too many makes no difference.
-- Assumes nothing.
use Prim.Native.Nat.{ℕ, ◌<◌, ◌≤◌}
use mathlib.Core.Path.{◌≡◌, refl, sym, ap, ◌∙◌}
use mathlib.Core.List.{List, ◌++◌, append-nil}
use native.Mathlib.Decide.{dec_lt}
use native.Mathlib.Omega.{arith}
use lib.ListN.{length, take, length-take}
use lib.Seq.{take_all, take_at}
use Rattle.std.proofs.lemmas.Bool.{lt-ltb}
use Rattle.std.specs.Io.KnownBytes.{Consumes, IsAtEnd}
use Rattle.std.specs.Prelude.{None, Some, IfSome}
use Rattle.std.specs.declared.option.Option.{Option}
use Rattle.trace.specs.declared.replaying.Outcome.{Outcome}
use Rattle.trace.specs.declared.replaying.Outcome.TheVariants.{TooLong}
use Rattle.trace.specs.Outcomes.{outcome, limit}

too_long : (file : List ℕ) → limit < length file → outcome file ≡ TooLong
unfolding outcome
too_long file l = rw (lt-ltb limit (length file) l)

same_outcome : (n : ℕ) (file : List ℕ) → limit < n → outcome (take n file) ≡ outcome file
same_outcome n file l = go (dec_lt limit (length file))
  where
    go : Dec (limit < length file) → outcome (take n file) ≡ outcome file
    go (yes h) = too_long (take n file) (omega (arith, length-take n file, h, l)) ∙ sym (too_long file h)
    go (no h) = ap outcome (take_all n file (omega arith))

-- bytes that a source gave, until there was one too many or it had no more, have the outcome of all that it had
same_at_end : (before after : Option (List ℕ)) (text : List ℕ) (found : Outcome) → Consumes before after text → (length text ≤ limit → IsAtEnd after) → found ≡ outcome text
    → IfSome before (λ file. found ≡ outcome file)
same_at_end None after text found c e o = tt
same_at_end (Some file) None text found c e o = absurd c
same_at_end (Some file) (Some rest) text found c e o = o ∙ go (dec_lt limit (length text)) ∙ ap outcome (sym c)
  where
    go : Dec (limit < length text) → outcome text ≡ outcome (text ++ rest)
    go (yes h) = ap outcome (sym (take_at text rest (length text) refl)) ∙ same_outcome (length text) (text ++ rest) h
    go (no h) = ap outcome (sym (append-nil text) ∙ ap (λ (xs : List ℕ). text ++ xs) (sym (e (omega arith))))

-- the same of the first bytes of a buffer that has room for one too many
pub cut_off : (room end at : ℕ) (before after : Option (List ℕ)) (bytes text : List ℕ) (found : Outcome) → limit < room → end ≤ length bytes → Consumes before after (take end bytes) → (end < room → IsAtEnd after)
    → text ≡ bytes → found ≡ outcome (take at text) → at ≡ end → IfSome before (λ file. found ≡ outcome file)
cut_off room end at before after bytes text found l w c e t o same =
    let seen : take at text ≡ take end bytes = ap (λ (n : ℕ). take n text) same ∙ ap (λ (xs : List ℕ). take end xs) t in
    same_at_end before after (take end bytes) found c (λ few. e (omega (arith, l, w, few, length-take end bytes))) (o ∙ ap outcome seen)
