-- The theorem that specs/Table states.
-- Assumes nothing.
use mathlib.Core.Path.{refl}
use Rattle.model.specs.declared.calls.Change.TheVariants.{Assign, Withdraw, Permit, Revoke, Forward, Mandate}
use Rattle.model.specs.declared.calls.Product.TheVariants.{Server, TermBank}
use Rattle.model.specs.declared.calls.Ask.TheVariants.{Open, Conflicting, Add, Show}
use Rattle.model.specs.declared.calls.Call.TheVariants.{Table, Session, Read, Unreadable}
use Rattle.model.specs.Refusals.{change_rows, ask_rows, check_rows, read_rows, rows}
use Rattle.model.specs.Table.{table, kind_of, among, column, first_before, checks, Tabled}

pub tabled : Tabled
unfolding change_rows ask_rows check_rows read_rows rows table kind_of among column first_before checks
tabled last l links (Table (Assign u r)) = refl
tabled last l links (Table (Withdraw u r)) = refl
tabled last l links (Table (Permit r d)) = refl
tabled last l links (Table (Revoke r d)) = refl
tabled last l links (Table (Forward d e)) = refl
tabled last l links (Table (Mandate r d)) = refl
tabled last l links (Session Server s Open) = refl
tabled last l links (Session Server s (Conflicting d)) = refl
tabled last l links (Session Server s (Add d m)) = refl
tabled last l links (Session Server s (Show f)) = refl
tabled last l links (Session TermBank s Open) = refl
tabled last l links (Session TermBank s (Conflicting d)) = refl
tabled last l links (Session TermBank s (Add d m)) = refl
tabled last l links (Session TermBank s (Show f)) = refl
tabled last l links (Read Server u s f d) = refl
tabled last l links (Read TermBank u s f d) = refl
tabled last l links Unreadable = refl
