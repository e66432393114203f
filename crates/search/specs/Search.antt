-- How the code works out conflicts: whose roles meet two of the sets of roles that may read the flows.
-- Assumes nothing.
use Rattle.std.specs.Prelude.{ℕ, ◌&&◌, List, leb, get_or}
use Rattle.sets.specs.Sets.{set_of, some, count, meeting}
use Rattle.rows.specs.Rows.{there}
use Rattle.tables.specs.Tables.{user_count, role_count}

-- the roles of the users whose roles meet at least two of the first n sets
unfoldable pub conflicts_of : List ℕ → List ℕ → ℕ → ℕ
conflicts_of roles may n = set_of role_count (λ c. some user_count (λ u. there roles u c && leb 2 (count n (λ g. meeting role_count (get_or roles u 0) (get_or may g 0)))))
