-- docs/MODEL.md, "The worked run", with its stars and with versions of eight digits; a run with a mandate; and what is settled of all runs.
-- Assumes nothing.
use Rattle.std.specs.Prelude.{ℕ, ◌≡◌, cond, List, [], ◌∷◌, ◌++◌, eqb, codes}
use Rattle.protocol.specs.Run.{run}
use Rattle.protocol.specs.Specification.{digits, Output}
use Rattle.worked.specs.Runs.{Pair, line, star, input_of, output_of}
use Rattle.worked.specs.EveryKind.{every_kind, unended, malformed, full_session}

unfoldable pub worked : List Pair
worked =
    line "010100" "0000000001"
    ∷ line "010101" "0000000002"
    ∷ line "010102" "0000000003"
    ∷ line "010200" "0000000004"
    ∷ star "030000" "0000000005"
    ∷ line "030101" "0000000006"
    ∷ star "050102" "0000000006"
    ∷ line "0600" "0000000006"
    ∷ star "0800000000000000000000" "00000100000006"
    ∷ star "070001" "000000000000000007"
    ∷ star "0800010000000000000004" "00010200000006"
    ∷ star "0901000000" "00"
    ∷ star "0901000101" "0e"
    ∷ star "0902000000" "00"
    ∷ star "0a0001" "0000000006000000000000000400000000000000010000000000000002"
    ∷ star "020102" "0000000006"
    ∷ star "0901000101" "00"
    ∷ star "0902000101" "0c"
    ∷ line "010203" "0000000007"
    ∷ star "0902000000" "0d"
    ∷ line "0a" "01"
    ∷ []

-- K3: a read that is refused as linkable, a mandate, and the same read granted: user 1 holds the denied role, nothing was taken from anybody, and
-- both flows are granted. The permission under the mandate can't be revoked.
unfoldable pub duty : List Pair
duty =
    line "010100" "0000000001"
    ∷ line "010101" "0000000002"
    ∷ line "010102" "0000000003"
    ∷ line "030000" "0000000004"
    ∷ line "030101" "0000000005"
    ∷ line "0600" "0000000005"
    ∷ line "0800000000000000000000" "00000100000005"
    ∷ line "0800010000000000000004" "00010100000005"
    ∷ line "0901000000" "00"
    ∷ line "0901000101" "0e"
    ∷ line "100101" "0000000005"
    ∷ line "0901000101" "00"
    ∷ line "040101" "0f"
    ∷ []

-- K1: the same frames with kinds 0b to 0f in place of 06 to 0a. The kinds differ in their second digit.
unfoldable pub bank_digit : ℕ → ℕ
bank_digit d = cond (eqb d 0x36) 0x62 (cond (eqb d 0x37) 0x63 (cond (eqb d 0x38) 0x64 (cond (eqb d 0x39) 0x65 (cond (eqb d 0x61) 0x66 d))))

unfoldable pub of_the_bank : List ℕ → List ℕ
of_the_bank [] = []
of_the_bank (a ∷ []) = a ∷ []
of_the_bank (a ∷ d ∷ rest) = a ∷ bank_digit d ∷ rest

unfoldable pub bank_input_of : List Pair → List ℕ
bank_input_of [] = []
bank_input_of (p ∷ ps) = of_the_bank p.frame ++ (0x0a ∷ bank_input_of ps)

-- each table in one run from a fresh engine
pub record Settled : Type 0 where
  -- the bytes of a text are those of its characters
  pub texts : codes "0123456789abcdef" ≡ digits
  -- the definitions that the contracts cite give these answers
  pub written : run (input_of worked) ≡ output_of worked
  -- and the specification allows them
  pub allowed : Output (input_of worked) (output_of worked)
  -- of the term bank's sessions the same
  pub bank_written : run (bank_input_of worked) ≡ output_of worked
  pub bank_allowed : Output (bank_input_of worked) (output_of worked)
  -- of the run with a mandate
  pub duty_written : run (input_of duty) ≡ output_of duty
  pub duty_allowed : Output (input_of duty) (output_of duty)
  -- of the run with every kind of frame
  pub kinds_written : run (input_of every_kind ++ unended) ≡ output_of every_kind ++ malformed
  pub kinds_allowed : Output (input_of every_kind ++ unended) (output_of every_kind ++ malformed)
  -- and of the run with eight flows
  pub full_written : run (input_of full_session) ≡ output_of full_session
  pub full_allowed : Output (input_of full_session) (output_of full_session)
