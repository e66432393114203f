use Rattle.given.proofs.Products.{products_mean}
use Rattle.promises.proofs.products_in_c.Goals as goal

pub returns : goal.returns
returns c = products_mean
