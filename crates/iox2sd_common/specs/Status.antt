-- What an export answers, as C sees it.
use Rattle.std.specs.Prelude.{◌≡◌, ◌≢◌, ℕ, Option, Some, None, List, codes, Result, Ok, Err}
use Rattle.iox2sd_common.specs.declared.status.Status.{Status}
use Rattle.iox2sd_common.specs.declared.status.Status.TheVariants as status

-- the number of a status, and what it says
abbrev pub said : Status → ℕ × List ℕ
said status.Done = (0, codes "done")
said status.DoneLocked = (1, codes "done, and the service is locked for good")
said status.BufferTooShort = (2, codes "the buffer is too short")
said status.NoMemory = (3, codes "no memory")
said status.NoService = (4, codes "the object holds no service")
said status.HasService = (5, codes "the object holds a service already")
said status.UnknownPattern = (6, codes "unknown messaging pattern")
said status.UnknownRole = (7, codes "unknown role")
said status.NoNode = (8, codes "not the id of a node")
said status.IsLocked = (9, codes "the service is locked for good")
said status.OutOfSpace = (10, codes "no slot or no ticket is left")
said status.ForeignHandle = (11, codes "no entry has the handle")
said status.PortsStillAttached = (12, codes "ports are still attached")
said status.NodeNotRegistered = (13, codes "the node is not registered")
said status.RoleNotInPattern = (14, codes "the pattern has no ports of the role")
said status.UnknownSegment = (15, codes "unknown kind of data segment")
said status.BadKey = (16, codes "not a key of a pair")
said status.BadValue = (17, codes "not a value of a pair")
said status.TooMany = (18, codes "more than sixteen pairs")
said status.Null = (20, codes "NULL")
said status.UnknownStatus = (21, codes "unknown status")
said status.Empty = (40, codes "the text is empty")
said status.TooLong = (41, codes "the text is too long")
said status.IllegalByte = (42, codes "a byte may not stand in the text")
said status.NoFileName = (43, codes "not the name of a file")
said status.ReservedPrefix = (44, codes "the name begins with a reserved prefix")
said status.NotUtf8 = (45, codes "not UTF-8")
said status.BadServiceName = (46, codes "not the name of a service")
said status.BadPath = (47, codes "not a path")
said status.BadEntry = (48, codes "the text may not be joined to a path")
said status.IllegalHash = (49, codes "the hash text cannot be the name of a file")
said status.BadRequiredKey = (50, codes "not a key of a required pair")
said status.BadRequiredValue = (51, codes "not a value of a required pair")
said status.BadAskedKey = (52, codes "not a required key, nor one that may be searched for")
said status.TooManyRequired = (53, codes "more than sixteen pairs and keys are required")
said status.MissingPair = (54, codes "a required pair is not in the set")
said status.MissingKey = (55, codes "no pair of the set has a required key")
said status.NoSuchValue = (56, codes "the key has no value of this index")
said status.BadAlignment = (57, codes "an alignment is not a power of two")
said status.TooLarge = (58, codes "the answer would pass its range")
said status.UnknownVariant = (59, codes "unknown variant")
said status.OtherName = (60, codes "the types of a part have other names")
said status.OtherVariant = (61, codes "the types of a part are of other variants")
said status.OtherSize = (62, codes "the types of a part have other sizes")
said status.OtherAlignment = (63, codes "the types of the headers have other alignments")
said status.GreaterAlignment =
    (64, codes "the opener's type has a greater alignment than the service's")
said status.UnknownText = (65, codes "unknown text of the configuration")
said status.BadLine = (66, codes "a line of the script is not valid")
said status.UnknownStrategy = (67, codes "unknown strategy")
said status.BadDuration = (68, codes "the nanoseconds of a duration are a second or more")
said status.Unmet = (69, codes "a setting is not what the opener requires")
said status.OtherPattern = (70, codes "the service has another messaging pattern")
said status.NotToml = (80, codes "not TOML")
said status.WrongType = (81, codes "a value of another type is wanted")
said status.BelowZero = (82, codes "the number is below 0")
said status.NoDuration = (83, codes "not a duration: the integers secs and nanos")
said status.NoTomlInteger = (84, codes "TOML has no integer above 2^63 - 1")
said status.NoFile = (85, codes "the file cannot be read")
said status.TooDeep = (86, codes "tables and arrays are nested too deeply")
said status.NoOrder = (90, codes "no order of the calls explains the reply")
said status.NoServiceLine = (91, codes "the line of a service is expected")
said status.NoCallLine = (92, codes "the line of a service, a call or an event is expected")
said status.NoReplyLine = (93, codes "a reply is expected")
said status.TooManyConfigurations =
    (94, codes "orders of the calls lead to more than 4,096 configurations")
said status.TooManyOpenCalls = (95, codes "more than 64 calls are open")
said status.CallerIsBusy = (96, codes "a caller without an open call is expected")
said status.NoOpenCall = (97, codes "a caller with an open call is expected")
said status.CallerIsDead = (98, codes "a caller that has not died is expected")
said status.UnknownCaller = (99, codes "a caller that has begun a call is expected")
said status.NoNewline = (100, codes "a newline is expected at the end of the line")
said status.CarriageReturn = (101, codes "no carriage return is expected before the newline")
said status.NoStateLine = (102, codes "a state of the service is expected")

abbrev pub code : Status → ℕ
code s = (said s).0

abbrev pub status_text : Status → List ℕ
status_text s = (said s).1

-- the one that has this number, or that none has it
abbrev pub OfNumber : {A : Type 0} → (A → ℕ) → ℕ → Option A → Type 0
OfNumber number_of number (Some one) = number_of one ≡ number
OfNumber {A} number_of number None = (one : A) → number_of one ≢ number

-- the status of a number
abbrev pub ReadsStatus : ℕ → Option Status → Type 0
ReadsStatus number read = OfNumber code number read

-- the number at the end of a call that makes something or is refused
abbrev pub end_code : {A : Type 0} → Result A Status → ℕ
end_code (Ok made) = code status.Done
end_code (Err refused) = code refused
