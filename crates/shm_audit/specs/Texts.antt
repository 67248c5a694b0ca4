-- the lines that tell of a verdict and of a fault
use Rattle.std.specs.{Prelude.{ℕ, List, [], ◌∷◌, ◌++◌, codes}, Fmt.decimal}
use Rattle.shm_audit.specs.declared.fault.ImageFault.{ImageFault}
use Rattle.shm_audit.specs.declared.fault.ImageFault.TheVariants.{Short, Magic, Geometry, Length, BadPage, BadHeader, BadTag, BadRef}
use Rattle.shm_audit.specs.declared.verdict.Verdict.{Verdict, TheVariants.{Clean, WrongCount, Uncounted, Pending}}

abbrev pub line_end : List ℕ
line_end = 10 ∷ []

-- `clean live L refs F`, `wrong BLOCK stored S found F`, `uncounted BLOCK` or `pending C`
abbrev pub verdict_line : Verdict → List ℕ
verdict_line (Clean live refs) = codes "clean live " ++ decimal live ++ codes " refs " ++ decimal refs ++ line_end
verdict_line (WrongCount block stored found) = codes "wrong " ++ decimal block ++ codes " stored " ++ decimal stored ++ codes " found " ++ decimal found ++ line_end
verdict_line (Uncounted block) = codes "uncounted " ++ decimal block ++ line_end
verdict_line (Pending client) = codes "pending " ++ decimal client ++ line_end

-- `refused`, and then what was found: at an address its word, which is no class, header, tag or reference
abbrev pub image_fault_line : ImageFault → List ℕ
image_fault_line (Short len) = codes "refused short " ++ decimal len ++ line_end
image_fault_line (Magic seen) = codes "refused magic " ++ decimal seen ++ line_end
image_fault_line (Geometry clients segments) = codes "refused geometry " ++ decimal clients ++ codes " " ++ decimal segments ++ line_end
image_fault_line (Length len want) = codes "refused length " ++ decimal len ++ codes " want " ++ decimal want ++ line_end
image_fault_line (BadPage at word) = codes "refused page " ++ decimal at ++ codes " " ++ decimal word ++ line_end
image_fault_line (BadHeader at word) = codes "refused header " ++ decimal at ++ codes " " ++ decimal word ++ line_end
image_fault_line (BadTag at word) = codes "refused tag " ++ decimal at ++ codes " " ++ decimal word ++ line_end
image_fault_line (BadRef at word) = codes "refused reference " ++ decimal at ++ codes " " ++ decimal word ++ line_end
