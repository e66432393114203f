use native.Mathlib.Omega.{arith}
use Rattle.decoding.proofs.Meaning.{next_right}
use Rattle.promises.proofs.next_line.Goals as goal

pub returns : goal.returns
returns c = λ input place bytes. next_right input place (λ i. record { fits = omega (arith, bytes i) })
