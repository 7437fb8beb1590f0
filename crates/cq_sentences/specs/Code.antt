-- The number of each code.
use Rattle.std.specs.Prelude.{ℕ}
use Rattle.cq_sentences.specs.declared.code.Code.{Code}
use Rattle.cq_sentences.specs.declared.code.Code.TheVariants as code

abbrev pub number_of : Code → ℕ
number_of code.BadByte = 11
number_of code.OpenText = 12
number_of code.OpenComment = 13
number_of code.LongName = 14
number_of code.Syntax = 21
number_of code.TooDeep = 22
number_of code.Unsupported = 23
number_of code.BadOption = 24
number_of code.NameTaken = 31
number_of code.NameUnknown = 32
number_of code.WrongKind = 33
number_of code.WrongSchema = 34
number_of code.NotASpan = 35
number_of code.WrongOperand = 36
number_of code.NoInstance = 37
number_of code.BadTerm = 38
number_of code.Duplicate = 41
number_of code.Unknown = 42
number_of code.WrongCount = 43
number_of code.WrongSort = 44
number_of code.Reserved = 45
number_of code.TooLarge = 46
number_of code.Missing = 47
number_of code.NotPreserved = 51
number_of code.DutyDepth = 52
number_of code.DutyRows = 53
number_of code.Broken = 54
number_of code.Depth = 61
number_of code.TooManyRows = 62
number_of code.Inconsistent = 63
number_of code.Oversized = 64
number_of code.TooManyAnswers = 65
number_of code.NameClash = 71
number_of code.JoinedName = 72
number_of code.NotCsv = 84
number_of code.BadHeader = 85
number_of code.BadCell = 86
number_of code.DoubleId = 87
number_of code.NoSuchId = 88
number_of code.ManyRecords = 89
