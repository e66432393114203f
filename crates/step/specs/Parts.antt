-- The engine behind its parts, which are lent one by one.
-- Assumes nothing.
use Rattle.std.specs.Prelude.{◌≡◌}
use Rattle.model.specs.declared.Engine.{Engine}
use Rattle.model.specs.State.{tables_of, directory_of, sessions_of, engine_of}
use Rattle.step.specs.declared.Parts.{Parts}

-- the engine that the parts are
abbrev pub lent : Parts → Engine
lent p = engine_of (directory_of (tables_of p.roles.now p.readers.now p.forwards.now p.mandates.now) p.users.now p.version.now)
    (sessions_of p.opened.now p.counts.now p.roots.now p.reaches.now p.versions.now p.denies.now p.rolesets.now)

-- they are the same references, whatever lies behind them
abbrev pub Same : Parts → Parts → Type 0
Same p q =
    (p.roles.ghost_name ≡ q.roles.ghost_name) × (p.readers.ghost_name ≡ q.readers.ghost_name) × (p.forwards.ghost_name ≡ q.forwards.ghost_name)
    × (p.mandates.ghost_name ≡ q.mandates.ghost_name) × (p.users.ghost_name ≡ q.users.ghost_name) × (p.version.ghost_name ≡ q.version.ghost_name)
    × (p.opened.ghost_name ≡ q.opened.ghost_name) × (p.counts.ghost_name ≡ q.counts.ghost_name) × (p.roots.ghost_name ≡ q.roots.ghost_name)
    × (p.reaches.ghost_name ≡ q.reaches.ghost_name) × (p.versions.ghost_name ≡ q.versions.ghost_name) × (p.denies.ghost_name ≡ q.denies.ghost_name)
    × (p.rolesets.ghost_name ≡ q.rolesets.ghost_name)
