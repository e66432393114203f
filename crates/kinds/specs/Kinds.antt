-- The fields of a call as the code has them, and the number of a kind. What call a kind is with its fields, `called_by` says.
-- Assumes nothing.
use Rattle.std.specs.Prelude.{ℕ, cond, ltb, get_or}
use Rattle.model.specs.declared.calls.Product.{Product}
use Rattle.model.specs.declared.calls.Product.TheVariants.{Server, TermBank}
use Rattle.kinds.specs.declared.Fields.{Fields}
use Rattle.kinds.specs.declared.Kind.{Kind}
use Rattle.kinds.specs.declared.Kind.TheVariants.{Assign, Withdraw, Permit, Revoke, Forward, Open, Conflicting, Add, Read, Show, Mandate}

-- field i of four
unfoldable pub field_in : Fields → ℕ → ℕ
field_in fields i = get_or fields.numbers i 0

-- the number of a kind: the server's kinds stand before the term bank's
unfoldable pub number_of_kind : Kind → ℕ
number_of_kind Assign = 0x01
number_of_kind Withdraw = 0x02
number_of_kind Permit = 0x03
number_of_kind Revoke = 0x04
number_of_kind Forward = 0x05
number_of_kind (Open Server) = 0x06
number_of_kind (Conflicting Server) = 0x07
number_of_kind (Add Server) = 0x08
number_of_kind (Read Server) = 0x09
number_of_kind (Show Server) = 0x0a
number_of_kind (Open TermBank) = 0x0b
number_of_kind (Conflicting TermBank) = 0x0c
number_of_kind (Add TermBank) = 0x0d
number_of_kind (Read TermBank) = 0x0e
number_of_kind (Show TermBank) = 0x0f
number_of_kind Mandate = 0x10

-- the product of a kind from 06 on to 0f, by its number
unfoldable pub product_of : ℕ → Product
product_of kind = cond (ltb kind 0x0b) Server TermBank
