-- The shapes of lines that are kept in memory.
use Rattle.std.specs.Prelude.{Option}
use Rattle.shm_script.specs.{declared.raw.RawLine.RawLine, Shapes.{Shape, Pool, Order, Client, Life, Command, given}}
use Rattle.shm_script.specs.declared.raw.RawLine.TheVariants as raw

-- without where it lies in memory
abbrev pub shape_seen : RawLine → Shape
shape_seen (raw.Pool wide clients segments) = Pool wide clients segments
shape_seen (raw.Order items) = Order items.items
shape_seen (raw.Client client) = Client client
shape_seen (raw.Life numbers) = Life numbers.items
shape_seen (raw.Command command) = Command command

-- the same, where there is one
abbrev pub line_seen : Option RawLine → Option Shape
line_seen o = given shape_seen o
