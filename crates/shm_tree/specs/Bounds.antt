-- How many word steps each call takes at most, in a pool of these sizes.
use Rattle.std.specs.Prelude.{ℕ, ◌+◌, ◌*◌}
use Rattle.shm_words.specs.declared.geometry.Geometry.{Geometry}
use Rattle.shm_graph.specs.Bounds.{alloc_steps, change_steps, redo_steps, tear_steps, up_steps}

-- a node is made, without children
abbrev pub make_steps : Geometry → ℕ
make_steps g = alloc_steps g.wide g.segments

-- a node comes to refer to a child
abbrev pub refer_steps : Geometry → ℕ
refer_steps g = change_steps g.wide + 3

-- a tree gets a further root
abbrev pub share_steps : Geometry → ℕ
share_steps g = up_steps g.wide + 16

-- a root is made empty, and n blocks are torn down
abbrev pub drop_steps : Geometry → ℕ → ℕ
drop_steps g n = redo_steps g.wide + 9 + tear_steps g.wide n

-- a node is made of two trees
abbrev pub link_steps : Geometry → ℕ
link_steps g = make_steps g + 2 * refer_steps g + 4

-- a node is made with one below it, whose root is dropped, and with one on each side
abbrev pub raised_steps : Geometry → ℕ
raised_steps g = link_steps g + link_steps g + drop_steps g 0

abbrev pub crowned_steps : Geometry → ℕ
crowned_steps g = link_steps g + raised_steps g + drop_steps g 0

-- a node moves up by one or by two
abbrev pub turned_steps : Geometry → ℕ
turned_steps g = 14 + crowned_steps g

abbrev pub rotated_steps : Geometry → ℕ
rotated_steps g = 10 + turned_steps g

-- a node is made of two trees whose heights may differ by 2
abbrev pub balanced_steps : Geometry → ℕ
balanced_steps g = 4 + rotated_steps g

-- a node is made anew with another tree on one side, whose root is dropped
abbrev pub renewed_steps : Geometry → ℕ
renewed_steps g = 3 + balanced_steps g + drop_steps g 0

-- the node of a key is made
abbrev pub lowest_steps : Geometry → ℕ
lowest_steps g = 6 + link_steps g

-- and one above it is made anew
abbrev pub raise_steps : Geometry → ℕ
raise_steps g = 4 + renewed_steps g

-- the place of a key e nodes down is found, its node is made, and j nodes above it are made anew, to each of which leads a way down
abbrev pub climb_steps : (j e : ℕ) → Geometry → ℕ
climb_steps j e g = 5 * e + 2 + lowest_steps g + j * (5 * e + raise_steps g)

-- a key is put into a tree of the height h
abbrev pub insert_steps : ℕ → Geometry → ℕ
insert_steps h g = climb_steps h h g

-- the tree on a side of a node gets a further root
abbrev pub remnant_steps : Geometry → ℕ
remnant_steps g = 3 + share_steps g

-- the lowest node of a removal is found e nodes down, the tree on a side of it gets a further root, and j nodes above it are made anew, to each of which leads a way down
abbrev pub fall_steps : (j e : ℕ) → Geometry → ℕ
fall_steps j e g = 5 * e + 9 + remnant_steps g + j * (5 * e + raise_steps g)

-- a key is taken out of a tree of the height h
abbrev pub remove_steps : ℕ → Geometry → ℕ
remove_steps h g = fall_steps h h g
