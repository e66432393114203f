-- What `feed` does with the line as an input of one line.
use Rattle.frames.proofs.Framed.{framed}
use Rattle.frames.proofs.lent.answer_frame.Goals as goal

pub returns-clause-answers : goal.returns-clause-answers
returns-clause-answers c = framed _ _ _ _ _ _ _ _ c.as_frame-framed.ensures c.deref.ensures.0 c.feed-fed.ensures.fed
