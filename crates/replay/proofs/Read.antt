-- What is read into the rest of a buffer stands behind what was read before.
-- Assumes nothing.
use Prim.Native.Nat.{ℕ, ◌+◌, ◌≤◌}
use mathlib.Core.Path.{◌≡◌, sym, ap, ◌∙◌}
use mathlib.Core.List.{List, ◌++◌}
use lib.ListN.{length, take, drop}
use lib.Seq.{take-add, take_at, drop_at}
use Rattle.std.proofs.Common.{subst, length-take-le}
use Rattle.std.proofs.KnownBytes.{Consumes-trans}
use Rattle.std.proofs.lemmas.List.{take-append-le}
use Rattle.std.specs.Io.KnownBytes.{Consumes}
use Rattle.std.specs.declared.option.Option.{Option}

pub read_on : (before between after : Option (List ℕ)) (end n : ℕ) (old part tail : List ℕ) → end ≤ length old → n ≤ length part → Consumes before between (take end old) → Consumes between after (take n part)
    → Consumes before after (take (end + n) (take end old ++ (part ++ tail)))
read_on before between after end n old part tail l f p q =
    let front : List ℕ = take end old in
    let all : List ℕ = front ++ (part ++ tail) in
    let long : length front ≡ end = length-take-le end old l in
    let behind : take n (drop end all) ≡ take n part = ap (take n) (drop_at front (part ++ tail) end long) ∙ take-append-le n part tail f in
    let both : take (end + n) all ≡ front ++ take n part = take-add end n all ∙ ap (λ (xs : List ℕ). xs ++ take n (drop end all)) (take_at front (part ++ tail) end long) ∙ ap (λ (xs : List ℕ). front ++ xs) behind in
    subst (Consumes before after) (sym both) (Consumes-trans before between after front (take n part) p q)
