-- what a call of the program does
use Rattle.std.specs.Prelude.{◌≡◌, ℕ, ◌⊎◌, List, [], ◌∷◌, codes, Option, Some, None, String, string_bytes}
use Rattle.std.specs.declared.alloc.Global.{Global}
use Rattle.shm_audit.specs.{declared.fault.ImageFault.ImageFault, Faults.image_fault_of}
use Rattle.shm_io.specs.{Faults.Rose, Reading.TakesFront, Writing.Appends}
use Rattle.shm_view.specs.declared.svg.Picture.{Picture}
use Rattle.shm_view.specs.{Changes.{first_of, second_of}, FiguresJson.IsFiguresJson, Svg.picture_text, Texts.IsFiguresText}
use Rattle.shm_script.specs.{declared.fault.TraceFault.TraceFault, Faults.fault_of, Text.text_of, Values.Traced}
use Rattle.run_view.specs.{declared.window.Window.Window, Replays.IsStepsText}
use Rattle.view_program.specs.declared.job.{ImageForm.ImageForm, Job.Job}
use Rattle.view_program.specs.declared.job.TraceForm.{TraceForm, TheVariants.{Steps, Words, Run}}
use Rattle.view_program.specs.declared.job.ImageForm.TheVariants as form
use Rattle.view_program.specs.declared.job.Job.TheVariants as job

-- how many bytes of an image are read at most: one more than that of the largest pool has
abbrev pub image_limit : ℕ
image_limit = 132185377

-- of two images: one more than two of these have
abbrev pub images_limit : ℕ
images_limit = 264370753

-- and of a trace: one more than the longest one has
abbrev pub trace_limit : ℕ
trace_limit = 1048577

-- ---- inputs

-- an image without a fault, and one with a fault
abbrev pub IsFaultless : List ℕ → Type 0
IsFaultless image = image_fault_of image ≡ None

abbrev pub HasImageFault : List ℕ → Type 0
HasImageFault image = (fault : ImageFault) × (image_fault_of image ≡ Some fault)

-- two images without a fault, of which the second one stands behind the first one; and two of which one has a fault
abbrev pub AreFaultless : List ℕ → Type 0
AreFaultless images = IsFaultless (first_of images) × IsFaultless (second_of images)

abbrev pub HaveFault : List ℕ → Type 0
HaveFault images = HasImageFault (first_of images) ⊎ HasImageFault (second_of images)

-- a trace without a fault, and one with a fault
abbrev pub IsFaultlessTrace : List ℕ → Type 0
IsFaultlessTrace trace = fault_of trace ≡ None

abbrev pub HasTraceFault : List ℕ → Type 0
HasTraceFault trace = (fault : TraceFault) × (fault_of trace ≡ Some fault)

-- an image of which this holds was read to its end, or to the limit; or two images, or a trace
abbrev pub ReadsImage : Option (List ℕ) → Option (List ℕ) → (List ℕ → Type 0) → Type 0
ReadsImage left left' holds = (image : List ℕ) × TakesFront left left' image_limit image × holds image

abbrev pub ReadsImages : Option (List ℕ) → Option (List ℕ) → (List ℕ → Type 0) → Type 0
ReadsImages left left' holds = (images : List ℕ) × TakesFront left left' images_limit images × holds images

abbrev pub ReadsTrace : Option (List ℕ) → Option (List ℕ) → (List ℕ → Type 0) → Type 0
ReadsTrace left left' holds = (trace : List ℕ) × TakesFront left left' trace_limit trace × holds trace

-- ---- what is shown of an image

-- the text of a picture
abbrev pub IsPictureText : List ℕ → Type 0
IsPictureText text = (p : Picture) × (text ≡ picture_text p)

-- its figures as text or as JSON, or a picture
abbrev pub ShowsImage : ImageForm → List ℕ → List ℕ → Type 0
ShowsImage form.Text image text = IsFiguresText image text
ShowsImage form.Json image text = IsFiguresJson image text
ShowsImage (form.Pool client) image text = IsPictureText text

-- this was written
abbrev pub IsImageWritten : ImageForm → List ℕ → Option (List ℕ) → Option (List ℕ) → Type 0
IsImageWritten form image held held' = (text : List ℕ) × Appends held held' text × ShowsImage form image text

-- ---- words of a call

-- the first one is `stats`
abbrev pub AskForFigures : List (String Global) → Type 0
AskForFigures [] = ⊥
AskForFigures (word ∷ words) = string_bytes word ≡ codes "stats"

-- figures are asked for
abbrev pub IsForFigures : Job → Type 0
IsForFigures (job.Image form.Text) = Unit {0}
IsForFigures (job.Image form.Json) = Unit {0}
IsForFigures (job.Image (form.Pool client)) = ⊥
IsForFigures job.Changes = ⊥
IsForFigures (job.Trace f window) = ⊥

-- ---- what is done

-- a text was written
abbrev pub IsWritten : Option (List ℕ) → Option (List ℕ) → Type 0
IsWritten held held' = (text : List ℕ) × Appends held held' text

-- an image without a fault was read, and its figures were written, as text or as JSON
abbrev pub AreFiguresWritten : Option (List ℕ) → Option (List ℕ) → Option (List ℕ) → Option (List ℕ) → Type 0
AreFiguresWritten left left' held held' = ReadsImage left left' (λ image. IsImageWritten form.Text image held held' ⊎ IsImageWritten form.Json image held held')

-- what is written of the replay of a trace: as `steps` the table of these turns; of the word steps and of a picture a text is all that is said
abbrev pub IsShownText : TraceForm → Window → Traced → List ℕ → Type 0
IsShownText Steps window t text = IsStepsText t window text
IsShownText Words window t text = Unit {0}
IsShownText Run window t text = Unit {0}

-- it was written
abbrev pub IsShownReplay : TraceForm → Window → Traced → Option (List ℕ) → Option (List ℕ) → Type 0
IsShownReplay form window t held held' = (text : List ℕ) × IsShownText form window t text × Appends held held' text

-- the same of the trace that these bytes spell
abbrev pub IsShownTrace : TraceForm → Window → Option (List ℕ) → Option (List ℕ) → List ℕ → Type 0
IsShownTrace form window held held' trace = IsFaultlessTrace trace × (t : Traced) × (trace ≡ text_of t) × IsShownReplay form window t held held'

-- an image or two images without a fault were read, and a text was written; or a trace was, and its replay was written in one of the forms
abbrev pub IsShown : Option (List ℕ) → Option (List ℕ) → Option (List ℕ) → Option (List ℕ) → Type 0
IsShown left left' held held' =
    (ReadsImage left left' IsFaultless × IsWritten held held')
    ⊎ ((ReadsImages left left' AreFaultless × IsWritten held held') ⊎ ((form : TraceForm) × (window : Window) × ReadsTrace left left' (IsShownTrace form window held held')))

-- an image or a trace with a fault was read, or two images of which one has a fault
abbrev pub IsRefused : Option (List ℕ) → Option (List ℕ) → Type 0
IsRefused left left' = ReadsImage left left' HasImageFault ⊎ (ReadsImages left left' HaveFault ⊎ ReadsTrace left left' HasTraceFault)

-- no input was read, for want of memory or since a read failed
abbrev pub IsStop : ℕ → ℕ → ℕ → Type 0
IsStop faults faults' status = (status ≡ 6) ⊎ ((status ≡ 4) × Rose faults faults')

-- a text was written, or a write failed
abbrev pub IsSent : ℕ → Type 0
IsSent status = (status ≡ 0) ⊎ (status ≡ 5)

-- the same, or memory was wanting
abbrev pub IsTold : ℕ → Type 0
IsTold status = (status ≡ 0) ⊎ ((status ≡ 5) ⊎ (status ≡ 6))

-- an input was read: it was shown or refused, a write failed, or memory was wanting
abbrev pub IsAnswer : ℕ → Type 0
IsAnswer status = (status ≡ 0) ⊎ ((status ≡ 3) ⊎ ((status ≡ 5) ⊎ (status ≡ 6)))

-- the words were accepted: an input was read, or a read failed
abbrev pub IsRead : ℕ → Type 0
IsRead status = IsAnswer status ⊎ (status ≡ 4)

-- the statuses of a call
abbrev pub IsStatus : ℕ → Type 0
IsStatus status = IsAnswer status ⊎ ((status ≡ 2) ⊎ (status ≡ 4))
