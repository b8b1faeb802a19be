-- Messages, and which of them keep to a site of n controllers and cap entries a book.
use Rattle.std.specs.Prelude.{ℕ, Bool, true, ◌&&◌, nat_le, nat_lt}
use Rattle.numbers.specs.declared.views.ControllerNumber.{ControllerNumber}
use Rattle.numbers.specs.declared.views.View.{View}
use Rattle.numbers.specs.Views.{count_ok}
use Rattle.entries.specs.declared.messages.Body.{Body}
use Rattle.entries.specs.declared.messages.Body.TheVariants.{Invitation, Answer, Form, Entry, Acknowledgement}
use Rattle.entries.specs.declared.messages.Message.{Message}
use Rattle.entries.specs.declared.messages.Reply.{Reply}
use Rattle.entries.specs.declared.messages.Reply.TheVariants.{Normal, Crash}

abbrev pub below : ℕ → ControllerNumber → Bool
below n c = nat_lt c.number n

abbrev pub view_below : ℕ → View → Bool
view_below n v = count_ok v.count && below n v.controller

abbrev pub reply_ok : ℕ → ℕ → Reply → Bool
reply_ok n cap (Normal u l p) = view_below n u && nat_le l cap
reply_ok n cap (Crash u) = view_below n u

abbrev pub body_ok : {E : Type 0} → ℕ → ℕ → Body E → Bool
body_ok n cap Invitation = true
body_ok n cap (Answer a) = reply_ok n cap a
body_ok n cap Form = true
body_ok n cap (Entry k e) = view_below n e.view && nat_le k.number cap
body_ok n cap (Acknowledgement l) = nat_le l cap

-- its controllers, those of its views too, are below n, its view counts at most 16,383, and its place or length at most cap
abbrev pub message_ok : {E : Type 0} → ℕ → ℕ → Message E → Bool
message_ok n cap m = below n m.sender && below n m.addressee && view_below n m.view && body_ok n cap m.body

-- a message of view v
abbrev pub message : {E : Type 0} → ControllerNumber → ControllerNumber → View → Body E → Message E
message i b v x = record { sender = i; addressee = b; view = v; body = x }
