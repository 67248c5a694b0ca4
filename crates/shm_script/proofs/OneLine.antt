-- The text of a command tells the command.
use Rattle.std.proofs.Common.{◌≡◌, ℕ, Option, Some, None, refl, sym, ap, ◌∙◌, inr}
use Rattle.shm_script.specs.{declared.line.Line.Line, Text.line_spelled, Ranges.LineSmall}
use Rattle.shm_script.specs.Shapes.{Shape, Command, shape_from, shape_of}
use Rattle.shm_script.specs.declared.line.Line.TheVariants as lines
use Rattle.shm_script.specs.declared.raw.RawCommand.TheVariants as raw
use Rattle.shm_script.proofs.Again.{line_free, line_head, line_joined, line_shaped, line_words, raw_line, split_words}

-- the shape of a command's text
text_shaped : (line : Line) → LineSmall line → shape_of (line_spelled line) ≡ Some (Command (raw_line line))
text_shaped line h =
    let f = line_free 32 line (inr refl) h in
    ap shape_of (line_joined line) ∙ ap shape_from (split_words (line_head line) (line_words line) f.0 f.1) ∙ line_shaped line h

abbrev number : Option ℕ → ℕ
number None = 0
number (Some n) = n

-- the command of a shape
abbrev command : Option Shape → Line
command (Some (Command (raw.Put k n))) = lines.Put (number k) (number n)
command (Some (Command (raw.Del k))) = lines.Del (number k)
command (Some (Command (raw.Get a k))) = lines.Get (number a) (number k)
command (Some (Command (raw.Copy k a o))) = lines.Copy (number k) (number a) (number o)
command (Some (Command (raw.Send c k))) = lines.Send (number c) (number k)
command (Some (Command (raw.Recv c k))) = lines.Recv (number c) (number k)
command _ = lines.Del 0

again : (line : Line) → command (Some (Command (raw_line line))) ≡ line
again (lines.Put k n) = refl
again (lines.Del k) = refl
again (lines.Get a k) = refl
again (lines.Copy k a o) = refl
again (lines.Send c k) = refl
again (lines.Recv c k) = refl

pub one_line : (a b : Line) → LineSmall a → LineSmall b → line_spelled a ≡ line_spelled b → a ≡ b
one_line a b h k same = sym (again a) ∙ ap command (sym (text_shaped a h) ∙ ap shape_of same ∙ text_shaped b k) ∙ again b
