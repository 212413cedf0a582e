-- The fifteen codes, their numbers (chapter 8 of the volume) and their names, and the numbers that C gets. Assumes nothing.
use Rattle.std.specs.Prelude.{List, ℕ, ◌+◌, ◌*◌, ◌^◌, codes}
use Rattle.facts.specs.declared.Code.{Code}
use Rattle.facts.specs.declared.Code.TheVariants.{Success, BadAttribute, BadBase, BadIrq, BadSize, BadSocket, NoCard, UnsupportedService}
use Rattle.facts.specs.declared.Code.TheVariants.{GeneralFailure, BadArgLength, BadArgs, InUse, NoMoreItems, OutOfResource, BadHandle}

abbrev pub number_of : Code → ℕ
number_of Success = 0x00
number_of BadAttribute = 0x02
number_of BadBase = 0x03
number_of BadIrq = 0x06
number_of BadSize = 0x0A
number_of BadSocket = 0x0B
number_of NoCard = 0x14
number_of UnsupportedService = 0x15
number_of GeneralFailure = 0x19
number_of BadArgLength = 0x1B
number_of BadArgs = 0x1C
number_of InUse = 0x1E
number_of NoMoreItems = 0x1F
number_of OutOfResource = 0x20
number_of BadHandle = 0x21

-- the name of a code, as document 01 has it
abbrev pub name_of : Code → List ℕ
name_of Success = codes "SUCCESS"
name_of BadAttribute = codes "BAD_ATTRIBUTE"
name_of BadBase = codes "BAD_BASE"
name_of BadIrq = codes "BAD_IRQ"
name_of BadSize = codes "BAD_SIZE"
name_of BadSocket = codes "BAD_SOCKET"
name_of NoCard = codes "NO_CARD"
name_of UnsupportedService = codes "UNSUPPORTED_SERVICE"
name_of GeneralFailure = codes "GENERAL_FAILURE"
name_of BadArgLength = codes "BAD_ARG_LENGTH"
name_of BadArgs = codes "BAD_ARGS"
name_of InUse = codes "IN_USE"
name_of NoMoreItems = codes "NO_MORE_ITEMS"
name_of OutOfResource = codes "OUT_OF_RESOURCE"
name_of BadHandle = codes "BAD_HANDLE"

-- code + 65536 * handle, or code + 65536 * count
abbrev pub packed : Code → ℕ → ℕ
packed code number = number_of code + 65536 * number

-- code + 2^32 * place
abbrev pub placed : Code → ℕ → ℕ
placed code place = number_of code + 2 ^ 32 * place
