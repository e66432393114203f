-- A line is read as the call whose frame it is, and as malformed where it is no frame.
-- Assumes nothing.
use Prim.Native.Nat.{ℕ}
use mathlib.Core.Path.{◌≡◌, refl, sym, ap, ◌∙◌, subst}
use mathlib.Core.Bool.{Bool, true, false, cond}
use mathlib.Core.List.{List}
use mathlib.Core.Logic.{inl, inr, ⊎_elim}
use lib.ListN.{take, drop}
use Rattle.model.specs.declared.calls.Call.{Call}
use Rattle.model.specs.declared.calls.Call.TheVariants.{Unreadable}
use Rattle.protocol.specs.Digits.{all_digits, number}
use Rattle.protocol.specs.Lines.{frame, call_of}
use Rattle.protocol.specs.Specification.{spelled, HasFrame, Says}
use Rattle.protocol.specs.Specification.{frame as says_frame, malformed as says_malformed}
use Rattle.protocol.proofs.Spelling.{read_spelled, Framed, pick, framed_called}

framed_digits : (line : List ℕ) → all_digits line ≡ true → Framed line (frame (number (take 2 line)) (drop 2 line))
unfolding frame
framed_digits line h = pick (Framed line) _ _ _ (λ t. framed_called line h t) (inl refl)

framed : (line : List ℕ) → Framed line (call_of line)
unfolding call_of
framed line = go (all_digits line) refl
  where
    go : (b : Bool) → all_digits line ≡ b → Framed line (cond b (frame (number (take 2 line)) (drop 2 line)) Unreadable)
    go true h = framed_digits line h
    go false h = inl refl

-- ---- together

no_frame : (d : Call) → d ≡ Unreadable → HasFrame d → ⊥
no_frame d e h = subst (λ (c : Call). HasFrame c) e h

says_of : {line : List ℕ} (c : Call) → HasFrame c → line ≡ spelled c → Says line c
says_of c h e = rw e (says_frame c h)

-- a line says the call that it is read as
pub says : (line : List ℕ) → Says line (call_of line)
says line = go (call_of line) refl (framed line)
  where
    go : (c : Call) → call_of line ≡ c → Framed line c → Says line c
    go c e (inl u) = rw u (says_malformed line (λ d f q. no_frame d (sym (read_spelled d f) ∙ ap call_of (sym q) ∙ e ∙ u) f))
    go c e (inr r) = says_of c r.0 r.1

-- and no other
pub says_one : {line : List ℕ} {c : Call} → Says line c → call_of line ≡ c
says_one (says_frame c h) = read_spelled c h
says_one (says_malformed line f) = ⊎_elim (λ u. u) (λ r. absurd (f (call_of line) r.0 r.1)) (framed line)
