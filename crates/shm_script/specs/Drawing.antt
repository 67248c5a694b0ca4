-- The traces of the generator: four clients, and commands drawn from a sequence of numbers.
use Rattle.std.specs.Prelude.{ℕ, zero, suc, false, ◌+◌, ◌*◌, ◌%◌, List, [], ◌∷◌, nat_lt, ◌==◌, if◌then◌else◌}
use Rattle.shm_script.specs.declared.line.Line.{Line, TheVariants.{Put, Del, Get, Copy, Send, Recv}}
use Rattle.shm_script.specs.Values.{Scripted, Traced}

-- the number of the sequence that follows x; a draw of n numbers is its remainder by n
unfoldable pub next : ℕ → ℕ
next x = 48271 * x % 2147483647

-- where the sequence begins
abbrev pub first : ℕ → ℕ
first start = 1 + start % 2147483646

-- a client other than c, drawn from three
abbrev pub other_client : ℕ → ℕ → ℕ
other_client c x = (c + 1 + x % 3) % 4

-- a command of client c of the kind k, drawn from behind x, and where the sequence stands then
unfoldable pub drawn_as : ℕ → ℕ → ℕ → Line × ℕ
drawn_as c k x =
    if nat_lt k 4 then (Put (next x % 256) (next (next x) % 1000000), next (next x))
    else if k == 4 then (Del (next x % 256), next x)
    else if k == 5 then (Get (next x % 4) (next (next x) % 256), next (next x))
    else if nat_lt k 8 then (Copy (next x % 256) (next (next x) % 4) (next (next (next x)) % 256), next (next (next x)))
    else if k == 8 then (Send (other_client c (next x)) (next (next x) % 256), next (next x))
    else (Recv (other_client c (next x)) (next (next x) % 256), next (next x))

-- a command of client c, whose kind is drawn from ten
abbrev pub drawn_line : ℕ → ℕ → Line × ℕ
drawn_line c x = drawn_as c (next x % 10) (next x)

-- n commands of client c, and where the sequence stands then
unfoldable pub drawn_lines : ℕ → ℕ → ℕ → List Line × ℕ
drawn_lines c zero x = ([], x)
drawn_lines c (suc n) x = ((drawn_line c x).0 ∷ (drawn_lines c n (drawn_line c x).1).0, (drawn_lines c n (drawn_line c x).1).1)

-- the lives of client c: client 3 alone has some, the first of them drawn
unfoldable pub drawn_life : ℕ → ℕ → List ℕ × ℕ
drawn_life c x = if c == 3 then ((500 + next x % 20000) ∷ 5 ∷ 9 ∷ [], next x) else ([], x)

-- a script of n commands
abbrev pub drawn_script : ℕ → ℕ → ℕ → Scripted × ℕ
drawn_script n c x =
    (record { client = c; life = (drawn_life c x).0; lines = (drawn_lines c n (drawn_life c x).1).0 }, (drawn_lines c n (drawn_life c x).1).1)

-- k scripts of n commands each, from client c on
unfoldable pub drawn_scripts : ℕ → ℕ → ℕ → ℕ → List Scripted
drawn_scripts n c zero x = []
drawn_scripts n c (suc k) x = (drawn_script n c x).0 ∷ drawn_scripts n (c + 1) k (drawn_script n c x).1

-- the trace of four scripts of n commands each, of format 1
abbrev pub drawn_trace : ℕ → ℕ → Traced
drawn_trace start n = record { clients = 4; segments = 16; wide = false; order = []; scripts = drawn_scripts n 0 4 (first start) }
