-- A read's line by its number, any other's by its step; its parts are read in the arrays after the call.
use Rattle.frames.proofs.Answering.{read_wrote, told_wrote}
use Rattle.frames.proofs.lent.answer_call.Goals as goal

pub returns-in-Read-clause-line : goal.returns-in-Read-clause-line
returns-in-Read-clause-line c = read_wrote _ _ _ _ _ _ _ _ c.in-Read.is c.number-n.ensures c.requires c.write_number.ensures

pub returns-clause-line : goal.returns-clause-line
returns-clause-line c = told_wrote _ _ _ _ c.step-answer.ensures.value c.requires (c.write_answer.ensures _ _ _ _)
