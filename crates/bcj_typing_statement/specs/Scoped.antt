-- What a walk leaves of a scope.
use Rattle.std.specs.Prelude.{◌≡◌, length, take}
use Rattle.bcj_typing_scope.specs.declared.scope.Scope.{Scope}

-- locals may stand behind those in scope, and types behind those of all locals; the rest is as it was
pub record Keeps (old new : Scope) : Type 0 where
  pub rest : new ≡ record old { locals = new.locals; types = new.types }
  pub inner : take (length old.locals) new.locals ≡ old.locals

-- the types of all locals alone may be others
pub record Stays (old new : Scope) : Type 0 where
  pub rest : new ≡ record old { types = new.types }
