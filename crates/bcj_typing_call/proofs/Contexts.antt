-- With the parts of a context as arguments, needs and typings of calls are those of the rules.
use Rattle.std.proofs.Common.{◌≡◌, refl, List}
use Rattle.bcj_decl_rules.specs.World.{Named}
use Rattle.bcj_decl_rules.specs.Methods.{Choice, one, none_applies, ambiguous}
use Rattle.bcj_typing_rules.specs.Context.{Context, has_this, is_interface, is_abstract_type}
use Rattle.bcj_typing_rules.specs.Expressions.{Typing, own_call_needs, own_call, behind_call, super_call_needs, super_method_call, new_needs}
use Rattle.bcj_typing_rules.specs.Members.{call_added}
use Rattle.bcj_typing_call.specs.Calls.{own_needs, own_typing, behind_typing, super_needs, super_typing, object_needs, first_added}

-- what a call by a simple name needs
own_needs_are : (c : Context) → own_needs (has_this c) ≡ own_call_needs c
own_needs_are c = refl

-- what a call by a simple name is
own_is : (c : Context) (ts : List Typing) → own_typing c.class ts ≡ own_call c ts
own_is c ts = refl

-- what a call behind an expression is
behind_is : (c : Context) (t : Typing) (class : Named) (ts : List Typing) → behind_typing (is_interface c class) t class ts ≡ behind_call c t class ts
behind_is c t class ts = refl

-- what a call behind `super` needs
super_needs_are : (c : Context) → super_needs (has_this c) ≡ super_call_needs c
super_needs_are c = refl

-- what a call behind `super` is
super_is : (c : Context) (class : Named) (ts : List Typing) → super_typing c.class class ts ≡ super_method_call c class ts
super_is c class ts = refl

-- what a new object needs
object_needs_are : (c : Context) (class : Named) → object_needs (is_abstract_type c class) ≡ new_needs c class
object_needs_are c class = refl

-- what a first call adds hangs on the context's class alone
pub first_added_is : (c : Context) (class : Named) (ts : List Typing) (m : Choice) → first_added c.class class ts m ≡ call_added c class ts m
first_added_is c class ts (one m) = refl
first_added_is c class ts none_applies = refl
first_added_is c class ts ambiguous = refl
