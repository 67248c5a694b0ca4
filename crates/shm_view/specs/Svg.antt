-- the text of a picture
use Rattle.std.specs.{Prelude.{ℕ, ◌==◌, if◌then◌else◌, List, [], ◌∷◌, ◌++◌, codes}, Fmt.decimal, List.flat_map}
use Rattle.std.specs.String.{string_bytes}
use Rattle.shm_view.specs.declared.svg.{Colour.Colour, Picture.Picture, Shape.{Shape, TheVariants.{Rect, Label, Line}}}

-- ---- texts

-- a byte of a text, by its name where it marks up
abbrev pub escaped_byte : ℕ → List ℕ
escaped_byte b =
    if b == 60 then codes "&lt;"
    else if b == 62 then codes "&gt;"
    else if b == 38 then codes "&amp;"
    else if b == 34 then codes "&quot;"
    else b ∷ []

-- a text, of which the bytes that mark up are written by their names
abbrev pub escaped : List ℕ → List ℕ
escaped = flat_map escaped_byte

-- ---- attributes

-- of a number
unfoldable pub attribute : List ℕ → ℕ → List ℕ
attribute name n = codes " " ++ name ++ codes "=\"" ++ decimal n ++ codes "\""

-- of a place
unfoldable pub place_text : ℕ → ℕ → List ℕ
place_text x y = attribute (codes "x") x ++ attribute (codes "y") y

-- of a size
unfoldable pub size_text : ℕ → ℕ → List ℕ
size_text width height = attribute (codes "width") width ++ attribute (codes "height") height

-- red, green and blue
unfoldable pub channels_text : Colour → List ℕ
channels_text c = decimal c.red ++ codes "," ++ decimal c.green ++ codes "," ++ decimal c.blue

-- of a colour
unfoldable pub fill_text : Colour → List ℕ
fill_text c = codes " fill=\"rgb(" ++ channels_text c ++ codes ")\""

-- of the ends of a straight line
unfoldable pub ends_text : ℕ → ℕ → ℕ → ℕ → List ℕ
ends_text x y x' y' = attribute (codes "x1") x ++ attribute (codes "y1") y ++ attribute (codes "x2") x' ++ attribute (codes "y2") y'

-- of its colour
unfoldable pub paint_text : Colour → List ℕ
paint_text c = codes " stroke=\"rgb(" ++ channels_text c ++ codes ")\""

-- of its width and colour
unfoldable pub stroke_text : ℕ → Colour → List ℕ
stroke_text width c = attribute (codes "stroke-width") width ++ paint_text c

-- ---- elements

-- a rectangle, without anything in it
unfoldable pub rect_text : ℕ → ℕ → ℕ → ℕ → Colour → List ℕ
rect_text x y width height fill = codes "<rect" ++ place_text x y ++ size_text width height ++ fill_text fill ++ codes "/>\n"

-- a line of text
unfoldable pub label_text : ℕ → ℕ → List ℕ → List ℕ
label_text x y text = codes "<text" ++ place_text x y ++ codes ">" ++ escaped text ++ codes "</text>\n"

-- a straight line
unfoldable pub line_text : ℕ → ℕ → ℕ → ℕ → ℕ → Colour → List ℕ
line_text x y x' y' width stroke = codes "<line" ++ ends_text x y x' y' ++ stroke_text width stroke ++ codes "/>\n"

-- that of a shape
abbrev pub shape_text : Shape → List ℕ
shape_text (Rect x y width height fill) = rect_text x y width height fill
shape_text (Label x y text) = label_text x y (string_bytes text)
shape_text (Line from to width stroke) = line_text from.0 from.1 to.0 to.1 width stroke

-- two numbers
unfoldable pub pair_text : ℕ → ℕ → List ℕ
pair_text width height = decimal width ++ codes " " ++ decimal height

-- what opens a picture of this size
unfoldable pub opening_text : ℕ → ℕ → List ℕ
opening_text width height =
    codes "<svg xmlns=\"http://www.w3.org/2000/svg\" viewBox=\"0 0 " ++ pair_text width height ++ codes "\" font-family=\"sans-serif\" font-size=\"34\">\n"

-- that of a picture
unfoldable pub picture_text : Picture → List ℕ
picture_text p = opening_text p.width p.height ++ flat_map shape_text p.shapes.items ++ codes "</svg>\n"
