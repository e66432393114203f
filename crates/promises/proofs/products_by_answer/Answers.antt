use Rattle.protocol.proofs.Products.{product_answers}
use Rattle.promises.proofs.products_by_answer.Goals as goal

pub returns : goal.returns
returns c = product_answers
