use Rattle.model.proofs.Products.{products}
use Rattle.promises.proofs.products_by_number.Goals as goal

pub returns : goal.returns
returns c = products
