-- What the products' numbers mean.
-- Assumes nothing.
use Prim.Native.Nat.{ℕ, zero, suc, ◌≤◌, ◌<◌, ◌+◌, ◌*◌}
use mathlib.Core.Path.{◌≡◌, refl}
use mathlib.Core.Bool.{Bool, true, false, cond}
use native.Mathlib.Omega.{arith}
use lib.Dec.{leb, ltb}
use borrow.Author.Tests.{lt-ltb, le-ltb}
use Rattle.tables.specs.Tables.{user_count, database_count}
use Rattle.model.specs.declared.Engine.{Engine}
use Rattle.model.specs.declared.calls.Product.{Product}
use Rattle.model.specs.declared.calls.Ask.{Ask}
use Rattle.model.specs.declared.calls.Ask.TheVariants.{Open, Conflicting, Add, Show}
use Rattle.model.specs.declared.calls.Call.TheVariants.{Session, Read}
use Rattle.model.specs.Limits.{session_count}
use Rattle.model.specs.State.{product_count, all_sessions, first_of, session_at}
use Rattle.model.specs.Calls.{number_of, returned, verdict_of, answer_of, open_session, conflicting, add, show, read, ask, step, answer, verdict}
use Rattle.given.specs.Given.{product_of, session_of, ProductsMean}

none_such : (p s : ℕ) → product_count ≤ p → session_count ≡ session_of p s
unfolding session_of
none_such p s l = rw (le-ltb p product_count l)

-- the number of a session among those of both products
pub no_product : (p s : ℕ) → product_count ≤ p → all_sessions ≡ session_at (product_of p) (session_of p s)
unfolding session_at
no_product p s l = rw (← none_such p s l) refl

pub no_session : (p s : ℕ) → session_count ≤ s → all_sessions ≡ session_at (product_of p) (session_of p s)
unfolding session_of session_at
no_session p s l = by_product (ltb p product_count)
  where
    by_product : (b : Bool) → all_sessions ≡ session_at (product_of p) (cond b s session_count)
    by_product true = rw (le-ltb s session_count l) refl
    by_product false = refl

pub at_one : (p s : ℕ) → p < product_count → s < session_count → p * session_count + s ≡ session_at (product_of p) (session_of p s)
unfolding product_of session_of session_at first_of
at_one zero s l h = rw (lt-ltb s session_count h) (omega arith)
at_one (suc zero) s l h = rw (lt-ltb s session_count h) (omega arith)
at_one (suc (suc p)) s l h = absurd (omega (arith, l))

-- a session above its limit
asked_above : (e : Engine) (p : Product) (k : Ask) → returned (verdict e (Session p session_count k)) ≡ 2
unfolding session_at number_of returned verdict_of open_session conflicting add show ask step answer verdict
asked_above e p Open = refl
asked_above e p (Conflicting root) = refl
asked_above e p (Add root chosen) = refl
asked_above e p (Show f) = refl

read_above : (e : Engine) (p : Product) (u f d : ℕ) → returned (verdict e (Read p u session_count f d)) ≡ 2
unfolding session_at number_of returned verdict_of answer_of read step answer verdict
read_above e p u f d = by_user (leb user_count u) refl
  where
    by_database : (b : Bool) → leb user_count u ≡ false → leb database_count d ≡ b → returned (verdict e (Read p u session_count f d)) ≡ 2
    by_database true h k = rw (h, k) refl
    by_database false h k = rw (h, k) refl

    by_user : (b : Bool) → leb user_count u ≡ b → returned (verdict e (Read p u session_count f d)) ≡ 2
    by_user true h = rw h refl
    by_user false h = by_database (leb database_count d) h refl

pub products_mean : (e : Engine) → ProductsMean e
unfolding product_of session_of
products_mean e =
    record {
      server = (refl, λ s. refl);
      bank = (refl, λ s. refl);
      none_asked = λ p s k l. rw (← none_such p s l) (asked_above e (product_of p) k);
      none_read = λ p u s f d l. rw (← none_such p s l) (read_above e (product_of p) u f d);
    }
