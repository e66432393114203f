-- What conflicts today, member by member.
-- Assumes nothing.
use Prim.Native.Nat.{ℕ, ◌≤◌, ◌<◌}
use mathlib.Core.Path.{◌≡◌, refl}
use mathlib.Core.Bool.{Bool, true, false, cond}
use mathlib.Core.Logic.{◌↔◌}
use native.Mathlib.Omega.{arith}
use lib.Dec.{leb}
use borrow.Author.Tests.{le-leb, lt-leb, leb-true}
use Rattle.sets.specs.Sets.{has}
use Rattle.tables.specs.declared.Tables.{Tables}
use Rattle.tables.specs.Tables.{user_count, role_count, database_count, holds, statically_reads}
use Rattle.tables.proofs.Meaning.{reads_iff}
use Rattle.model.specs.declared.Sessions.{Sessions}
use Rattle.model.specs.Limits.{flow_count}
use Rattle.model.specs.State.{all_sessions, conflicts}
use Rattle.model.specs.Calls.{flows_in}
use Rattle.model.specs.Meaning.{One, Two, ReadsTwo}
use Rattle.model.proofs.Meaning.{sets_mean}
use Rattle.today.specs.Today.{flows_today, reach_today, conflicts_today, ReadsToday, TodayMeans}

-- the flows that are counted
flows_there : (S : Sessions) (s : ℕ) → s < all_sessions → flows_in S s ≤ flow_count → flows_today S s ≡ flows_in S s
unfolding flows_today
flows_there S s l k = rw (lt-leb all_sessions s l) (go (leb flow_count (flows_in S s)) refl)
  where
    go : (b : Bool) → leb flow_count (flows_in S s) ≡ b → cond b flow_count (flows_in S s) ≡ flows_in S s
    go true p = omega (arith, leb-true flow_count (flows_in S s) p)
    go false p = refl

flows_past : (S : Sessions) (s : ℕ) → all_sessions ≤ s → flows_today S s ≡ 0
unfolding flows_today
flows_past S s l = rw (le-leb all_sessions s l)

-- a flow is read by one of the user's roles, at one of its databases
reads_flow : (T : Tables) (S : Sessions) (s u g : ℕ) → (statically_reads role_count database_count T.roles T.readers u (reach_today S s g) ≡ true) ↔ ReadsToday T S s u g
reads_flow T S s u g = (
  λ h. let w = (reads_iff role_count database_count T.roles T.readers u (reach_today S s g)).0 h in (w.0, w.1, (w.2, (w.3.0, w.3.1, (w.3.2, w.3.3)))),
  λ w. (reads_iff role_count database_count T.roles T.readers u (reach_today S s g)).1 (w.0, w.1, w.2.0, (w.2.1.0, w.2.1.1, w.2.1.2.0, w.2.1.2.1)),
)

conflicts_now : (T : Tables) (S : Sessions) (s c : ℕ) → (has (conflicts_today T S s) c ≡ true) ↔ ((c < role_count) × One user_count (λ u. (holds T u c ≡ true) × Two (flows_today S s) (ReadsToday T S s u)))
unfolding conflicts_today conflicts
conflicts_now T S s c = (
  λ h.
      let a = by_sets.0 h in
      let u = a.1.0 in
      let two = a.1.2.1 in
      (a.0, (u, a.1.1, (a.1.2.0, (two.0, two.1, two.2, two.3, (reads_flow T S s u two.0).0 two.4, (reads_flow T S s u two.1).0 two.5)))),
  λ w.
      let u = w.1.0 in
      let two = w.1.2.1 in
      by_sets.1 (w.0, (u, w.1.1, (w.1.2.0, (two.0, two.1, two.2, two.3, (reads_flow T S s u two.0).1 two.4, (reads_flow T S s u two.1).1 two.5)))),
)
  where
    by_sets : (has (conflicts role_count user_count database_count T (flows_today S s) (reach_today S s)) c ≡ true)
        ↔ ((c < role_count) × One user_count (λ u. (holds T u c ≡ true) × ReadsTwo role_count database_count T u (flows_today S s) (reach_today S s)))
    by_sets = (sets_mean role_count user_count database_count flow_count T).conflicting (flows_today S s) (reach_today S s) c

pub today_means : (T : Tables) (S : Sessions) (s : ℕ) → TodayMeans T S s
today_means T S s = record { conflicting = conflicts_now T S s; counted = flows_there S s; past = flows_past S s }
