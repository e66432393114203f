-- What was asked of a part of the engine leaves the rest as it is; and what a step gives.
-- Assumes nothing.
use mathlib.Core.Path.{◌≡◌, ap}
use Rattle.model.specs.declared.Directory.{Directory}
use Rattle.model.specs.declared.Sessions.{Sessions}
use Rattle.model.specs.declared.Engine.{Engine}
use Rattle.model.specs.declared.calls.Call.{Call}
use Rattle.model.specs.declared.calls.Answer.{Answer}
use Rattle.model.specs.Limits.{last_version}
use Rattle.model.specs.State.{engine_of}
use Rattle.model.specs.Calls.{Done, done, step, answer, after}

pub of_directory : {x y : Done Directory} (S : Sessions) → x ≡ y → done x.answer (engine_of x.after S) ≡ done y.answer (engine_of y.after S)
of_directory S e = ap (λ (x : Done Directory). done x.answer (engine_of x.after S)) e

pub of_sessions : {x y : Done Sessions} (D : Directory) → x ≡ y → done x.answer (engine_of D x.after) ≡ done y.answer (engine_of D y.after)
of_sessions D e = ap (λ (x : Done Sessions). done x.answer (engine_of D x.after)) e

-- ---- what a call's step says of its answer and of the engine after it

module _ (e e' : Engine) (c : Call) (a : Answer) (h : done a e' ≡ step last_version e c) where
  pub told_after : e' ≡ after e c
  unfolding after
  told_after = ap (λ (x : Done Engine). x.after) h

  pub told_answer : a ≡ answer e c
  unfolding answer
  told_answer = ap (λ (x : Done Engine). x.answer) h
