-- K1 by the ledger.
-- Assumes nothing.
use Rattle.model.specs.Products.{Products}
use Rattle.model.proofs.Apart.{apart}
use Rattle.model.proofs.Alike.{alike}
use Rattle.model.proofs.Closing.{closes, stays}

pub products : Products
products = record { alike = alike; apart = apart; closes = closes; stays = stays }
