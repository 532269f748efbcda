-- With the parts of a context in their places, what a field becomes is what the rules say of it.
use Rattle.std.proofs.Common.{refl, Some, None}
use Rattle.bcj_typing_variable.specs.Laws as law

-- a field that a simple name means, read
pub own-typing-is : law.OwnTypingIs
own-typing-is c f = refl

-- and assigned
pub own-placing-is : law.OwnPlacingIs
own-placing-is c f = refl

-- a field behind a type's name that is assigned
pub type-placing-is : law.TypePlacingIs
type-placing-is c class f = refl

-- a field behind an expression that is assigned
pub behind-placing-is : law.BehindPlacingIs
behind-placing-is c way t class f = refl

-- a field behind `super`, read
pub super-typing-is : law.SuperTypingIs
super-typing-is c class (Some v) f = refl
super-typing-is c class None f = refl

-- and assigned
pub super-placing-is : law.SuperPlacingIs
super-placing-is c class f = refl
