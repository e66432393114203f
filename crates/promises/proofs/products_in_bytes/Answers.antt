use Rattle.protocol.proofs.ProductBytes.{product_bytes}
use Rattle.promises.proofs.products_in_bytes.Goals as goal

pub returns : goal.returns
returns c = product_bytes
