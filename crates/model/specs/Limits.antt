-- "Things and their limits". Each stands once, as a constant of the code; users, roles and databases have theirs in `tables`. `Limits` says the numbers.
-- Assumes nothing.
use Rattle.std.specs.Prelude.{ℕ, ◌≡◌}
use Rattle.tables.specs.Tables.{user_count, role_count, database_count}
use Rattle.model.specs.declared.TheConstants.Engine.{PRODUCTS, SESSIONS, ALL_SESSIONS, FLOWS, PLACES, ROLE_SETS, LAST_VERSION}

-- sessions of each product
abbrev pub session_count : ℕ
session_count = SESSIONS

-- flows of a session
abbrev pub flow_count : ℕ
flow_count = FLOWS

abbrev pub last_version : ℕ
last_version = LAST_VERSION

pub record Limits : Type 0 where
  -- "Users 0–255, roles 0–63, databases 0–63"
  pub users : user_count ≡ 256
  pub roles : role_count ≡ 64
  pub databases : database_count ≡ 64
  -- "sessions 0–15" of each product
  pub sessions : session_count ≡ 16
  -- "at most 8 flows a session numbered 0–7 in order of addition"
  pub flows : flow_count ≡ 8
  -- "versions 0–4294967295"
  pub versions : last_version ≡ 4294967295
  -- two products on one directory; the sessions of both, places for all their flows, and role sets in all constraints
  pub products : PRODUCTS ≡ 2
  pub all_sessions : ALL_SESSIONS ≡ 32
  pub places : PLACES ≡ 256
  pub role_sets : ROLE_SETS ≡ 2048
