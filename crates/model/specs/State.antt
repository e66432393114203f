-- What is worked out of an engine's tables and arrays: conflicts, deny sets, role sets, new versions. Over the sizes, where it is about sets.
-- Assumes nothing.
use Rattle.std.specs.Prelude.{ℕ, zero, suc, ◌+◌, ◌*◌, Bool, true, false, cond, not, ◌&&◌, List, leb, ltb, eqb, get_or, set, replicate}
use Rattle.sets.specs.Sets.{has, set_of, some, count, shared, meeting}
use Rattle.rows.specs.Rows.{there}
use Rattle.tables.specs.declared.Tables.{Tables}
use Rattle.tables.specs.Tables.{user_count, statically_reads, readers_of, parents_of}
use Rattle.tables.specs.Tables.{fresh as empty_tables}
use Rattle.model.specs.declared.Directory.{Directory}
use Rattle.model.specs.declared.Sessions.{Sessions}
use Rattle.model.specs.declared.Engine.{Engine}
use Rattle.model.specs.declared.TheConstants.Engine.{PRODUCTS, ALL_SESSIONS, PLACES, ROLE_SETS}
use Rattle.model.specs.declared.calls.Product.{Product}
use Rattle.model.specs.declared.calls.Product.TheVariants.{Server, TermBank}
use Rattle.model.specs.Limits.{session_count, flow_count}

-- ---- the sessions of both products

-- how many products there are, and how many sessions
abbrev pub product_count : ℕ
product_count = PRODUCTS

abbrev pub all_sessions : ℕ
all_sessions = ALL_SESSIONS

-- the number among them of a product's first one
unfoldable pub first_of : Product → ℕ
first_of Server = 0
first_of TermBank = session_count

-- the number among them of session s of product p, which is past them all where s is above its limit
unfoldable pub session_at : Product → ℕ → ℕ
session_at p s = cond (ltb s session_count) (first_of p + s) all_sessions

-- how many places there are for flows in all sessions, and for role sets in all their constraints
abbrev pub place_count : ℕ
place_count = PLACES

abbrev pub role_set_count : ℕ
role_set_count = ROLE_SETS

-- ---- records of lent arrays

abbrev pub tables_of : List ℕ → List ℕ → List ℕ → List ℕ → Tables
tables_of roles readers forwards mandates = record { roles = roles; readers = readers; forwards = forwards; mandates = mandates }

abbrev pub directory_of : Tables → List ℕ → ℕ → Directory
directory_of T versions version = record { tables = T; versions = versions; version = version }

abbrev pub sessions_of : ℕ → List ℕ → List ℕ → List ℕ → List ℕ → List ℕ → List ℕ → Sessions
sessions_of opened counts roots reaches versions denies rolesets =
    record { opened = opened; counts = counts; roots = roots; reaches = reaches; versions = versions; denies = denies; rolesets = rolesets }

abbrev pub engine_of : Directory → Sessions → Engine
engine_of D S = record { directory = D; sessions = S }

-- l with p 0, p 1, .. up to p (n - 1) from `at` on
unfoldable pub filled : ℕ → (ℕ → ℕ) → ℕ → List ℕ → List ℕ
filled at p zero l = l
filled at p (suc n) l = set (filled at p n l) (at + n) (p n)

-- ---- flows; a session has its number among all

-- where flow f of session s stands in the arrays of flows
unfoldable pub place : ℕ → ℕ → ℕ
place s f = s * flow_count + f

-- where the role set for flow g stands, of the constraint of flow f of session s
unfoldable pub set_place : ℕ → ℕ → ℕ → ℕ
set_place s f g = place s f * flow_count + g

-- "some flow has been added in any session", and by K1 of "either product"
unfoldable pub any_flow : List ℕ → Bool
any_flow counts = some all_sessions (λ s. ltb 0 (get_or counts s 0))

-- the reach of flow g of session s, with a new flow counted in as the next one: n flows are there, and `new` is the new one's reach; past it nothing
unfoldable pub reach_with : List ℕ → ℕ → ℕ → ℕ → ℕ → ℕ
reach_with reaches s n new g = cond (ltb g n) (get_or reaches (place s g) 0) (cond (eqb g n) new 0)

-- ---- conflicts, over R roles, U users and D databases

-- the conflicting roles of n flows, whose reaches these are: "some user holds c and may statically read at least two of its flows"
unfoldable pub conflicts : ℕ → ℕ → ℕ → Tables → ℕ → (ℕ → ℕ) → ℕ
conflicts R U D T n reach_of = set_of R (λ c. some U (λ u. there T.roles u c && leb 2 (count n (λ g. statically_reads R D T.roles T.readers u (reach_of g)))))

-- a chosen role isn't among the conflicting ones
unfoldable pub outside : ℕ → ℕ → ℕ → Bool
outside R chosen conflicting = some R (λ r. has chosen r && not (has conflicting r))

-- ---- constraints

-- "the previous flow's deny set (empty for flow 0)": n flows are there
unfoldable pub deny_before : List ℕ → ℕ → ℕ → ℕ
deny_before denies s zero = 0
deny_before denies s (suc n) = get_or denies (place s n) 0

-- of the roles `may`, those that "are a parent of some role in the deny set"
abbrev pub parents_among : ℕ → ℕ → List ℕ → ℕ → ℕ → ℕ
parents_among R U roles may deny = shared R may (parents_of R U roles deny)

-- a role set: "the roles that may, at this addition, read a database in that flow's reach and are a parent of some role in the deny set"
unfoldable pub role_set : ℕ → ℕ → ℕ → Tables → ℕ → ℕ → ℕ
role_set R U D T deny reach = parents_among R U T.roles (readers_of R D T.readers reach) deny

-- "u holds a role of f's deny set and u's roles meet at least two of f's role sets": of R roles and F flows; `held` are u's roles
unfoldable pub linkable : ℕ → ℕ → ℕ → ℕ → (ℕ → ℕ) → Bool
linkable R F held deny roleset_of = meeting R held deny && leb 2 (count F (λ g. meeting R held (roleset_of g)))

-- the role sets of the constraint of flow f of session s
unfoldable pub roleset_at : List ℕ → ℕ → ℕ → ℕ → ℕ
roleset_at rolesets s f g = get_or rolesets (set_place s f g) 0

-- ---- versions

-- those of the first n users who are named get version v
unfoldable pub given : (ℕ → Bool) → ℕ → ℕ → List ℕ → List ℕ
given named v zero versions = versions
given named v (suc n) versions = elim (named n) [ true ↦ set (given named v n versions) n v | false ↦ given named v n versions ]

-- "A new version means: the system version rises by one and the named users get it"
unfoldable pub new_version : Directory → (ℕ → Bool) → Directory
new_version D named = directory_of D.tables (given named (D.version + 1) user_count D.versions) (D.version + 1)

-- ---- a fresh engine: "256 user versions of zero, system version 0, empty tables and no open session"

unfoldable pub fresh : Engine
fresh = record {
  directory = directory_of empty_tables (replicate user_count 0) 0;
  sessions = sessions_of 0 (replicate all_sessions 0) (replicate place_count 0) (replicate place_count 0) (replicate place_count 0) (replicate place_count 0) (replicate role_set_count 0);
}
