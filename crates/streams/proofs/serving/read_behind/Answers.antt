-- What is read stands behind the bytes that stay.
use Rattle.std.proofs.Common.{◌-◌, length, take, drop, length-take, refl, arith}
use Rattle.streams.proofs.Laws.{got_in}
use Rattle.streams.proofs.serving.read_behind.Goals as goal

pub returns-clause-consumed : goal.returns-clause-consumed
returns-clause-consumed g c =
    let n = c.args.n in
    let old = c.args.input.now in
    got_in _ _ n c.in_ok-read.read _ (take n old) c.read.new.buf (drop (length old - n) (drop n old)) (rw length-take (omega arith)) (omega (arith, c.in_ok-read.ensures.bound)) refl c.in_ok-read.ensures.bytes.0
