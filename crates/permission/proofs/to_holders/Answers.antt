-- The three ways out: somebody holds the role; nobody does; there is no version left, so nobody does.
use Prim.Native.Nat.{ℕ, ◌+◌}
use mathlib.Core.Path.{◌≡◌, sym, ◌∙◌}
use mathlib.Core.Bool.{Bool, true, false, true≢false}
use mathlib.Core.List.{List}
use mathlib.Core.Logic.{⊎_elim}
use native.Mathlib.Omega.{arith}
use borrow.Author.Tests.{eq-eqb}
use Rattle.sets.proofs.Laws.{true_or_false, and_all, some_at}
use Rattle.rows.specs.Rows.{there}
use Rattle.tables.specs.Tables.{held_by, user_count}
use Rattle.model.specs.Limits.{last_version}
use Rattle.model.specs.State.{tables_of, directory_of, given, new_version}
use Rattle.model.specs.Calls.{spent, to_holders}
use Rattle.model.proofs.Laws.{given_none}
use Rattle.permission.proofs.to_holders.Goals as goal

module _ (roles readers forwards mandates versions : List ℕ) (version r : ℕ) where
  given_to : (versions' : List ℕ) (held : Bool) → held ≡ held_by user_count roles r → versions' ≡ given (λ u. there roles u r) (version + 1) user_count versions → held ≡ true
      → directory_of (tables_of roles readers forwards mandates) versions' (version + 1) ≡ to_holders (directory_of (tables_of roles readers forwards mandates) versions version) r
  unfolding to_holders new_version
  given_to versions' held e g h = rw (sym e ∙ h, g)

  given_nobody : (versions' : List ℕ) (held : Bool) → held ≡ held_by user_count roles r → versions' ≡ given (λ u. there roles u r) (version + 1) user_count versions → held ≡ false
      → directory_of (tables_of roles readers forwards mandates) versions' version ≡ to_holders (directory_of (tables_of roles readers forwards mandates) versions version) r
  unfolding to_holders held_by
  given_nobody versions' held e g h =
      let none = sym e ∙ h in
      let same = given_none (λ u. there roles u r) (version + 1) user_count versions (λ u l. ⊎_elim (λ t. absurd (true≢false (sym (some_at user_count (λ w. there roles w r) u l t) ∙ none))) (λ t. t) (true_or_false (there roles u r))) in
      rw (none, g, same)

  last : version ≡ last_version → spent last_version (directory_of (tables_of roles readers forwards mandates) versions version) r ≡ false
      → directory_of (tables_of roles readers forwards mandates) versions version ≡ to_holders (directory_of (tables_of roles readers forwards mandates) versions version) r
  unfolding spent to_holders
  last e h =
      let nobody : held_by user_count roles r ≡ false = and_all (held_by user_count roles r) ∙ (rw (eq-eqb version last_version e) at h) in
      rw nobody

pub returns-then-renew : goal.returns-then-renew
returns-then-renew c readers forwards mandates = given_to _ readers forwards mandates _ _ _ _ _ c.renew.ensures.0 c.renew.ensures.1 c.if-renew.true

pub returns-else-renew : goal.returns-else-renew
returns-else-renew c readers forwards mandates = given_nobody _ readers forwards mandates _ _ _ _ _ c.renew.ensures.0 c.renew.ensures.1 c.if-renew.false

pub returns-else-version-lt-LAST_VERSION : goal.returns-else-version-lt-LAST_VERSION
returns-else-version-lt-LAST_VERSION c readers forwards mandates =
    let e : c.args.version.now ≡ last_version = omega arith in
    last _ readers forwards mandates _ _ _ e (c.requires readers forwards mandates)
