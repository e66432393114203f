-- What is fed of the whole input, and its end behind it.
use mathlib.Core.Path.{sym, ◌∙◌}
use Rattle.frames.proofs.Endings.{ran_short, ran_end}
use Rattle.frames.proofs.whole.run.Goals as goal

pub returns-then-is_some : goal.returns-then-is_some
returns-then-is_some c = ran_short _ _ _ _ _ _ c.fresh-engine.ensures c.feed-fed.ensures c.find_feed.ensures.place (sym c.is_some.ensures ∙ c.if-is_some.true)

pub returns : goal.returns
returns c = ran_end _ _ _ _ _ _ c.fresh-engine.ensures c.feed-fed.ensures _ _ c.find_feed.ensures.place (sym c.is_some.ensures ∙ c.if-is_some.false) c.write_end.ensures.0 c.write_end.ensures.1
