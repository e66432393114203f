use Rattle.carrying.proofs.Moving.{led}
use Rattle.promises.proofs.moved_as_led.Goals as goal

pub returns : goal.returns
returns c = led
