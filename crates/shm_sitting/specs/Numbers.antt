-- commands and their answers as numbers
use Rattle.std.specs.Prelude.{ℕ, ◌==◌, nat_lt, if◌then◌else◌, Option, Some, None}
use Rattle.shm_script.specs.declared.{line.Line.Line, log.Answer.Answer}
use Rattle.shm_script.specs.declared.line.Line.TheVariants as line
use Rattle.shm_script.specs.declared.log.Answer.TheVariants as answer
use Rattle.shm_session.specs.{declared.said.{Call.Call, Said.Said}, Sessions.code_said}

-- a number below 2^8, and one below 2^32; none where it isn't
abbrev pub byte_of : ℕ → Option ℕ
byte_of n = if nat_lt n 256 then Some n else None

abbrev pub word_of : ℕ → Option ℕ
word_of n = if nat_lt n 4294967296 then Some n else None

-- a line of one number, of two, and of three, where each of them is in its range
abbrev pub one : (ℕ → Line) → Option ℕ → Option Line
one f None = None
one f (Some k) = Some (f k)

abbrev pub two : (ℕ → ℕ → Line) → Option ℕ → Option ℕ → Option Line
two f None b = None
two f (Some a) b = one (f a) b

abbrev pub three : (ℕ → ℕ → ℕ → Line) → Option ℕ → Option ℕ → Option ℕ → Option Line
three f None b c = None
three f (Some a) b c = two (f a) b c

-- the line of a command by its number: 4 is a put, 5 a get, 6 a del, 7 a copy, 8 a send, 9 a receive
abbrev pub line_of : Call → Option Line
line_of c =
    if c.op == 4 then one (λ k. line.Put k c.second) (word_of c.first)
    else if c.op == 5 then two line.Get (byte_of c.first) (word_of c.second)
    else if c.op == 6 then one line.Del (word_of c.first)
    else if c.op == 7 then three line.Copy (word_of c.first) (byte_of c.second) (word_of c.third)
    else if c.op == 8 then two line.Send (byte_of c.first) (word_of c.second)
    else if c.op == 9 then two line.Recv (byte_of c.first) (word_of c.second)
    else None

-- what a command answered
abbrev pub answered : Answer → Said
answered answer.Ok = code_said 16
answered (answer.Stored b) = record { code = 17; at = b; first = 0; second = 0 }
answered (answer.Value n b) = record { code = 18; at = b; first = n; second = 0 }
answered answer.Missing = code_said 19
answered (answer.Full s b) = record { code = 20; at = 0; first = s; second = b }
answered (answer.CountFull b n) = record { code = 21; at = b; first = n; second = 0 }
answered (answer.QueueFull h t) = record { code = 22; at = 0; first = h; second = t }
answered (answer.Empty n) = record { code = 23; at = 0; first = n; second = 0 }
answered answer.RootsFull = code_said 24
answered (answer.EraSpent e) = record { code = 25; at = 0; first = e; second = 0 }
