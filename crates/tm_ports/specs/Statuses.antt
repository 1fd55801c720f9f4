-- The exit number of each status, and its line on standard error.
use Rattle.std.specs.Prelude.{ℕ, List, [], ◌++◌, codes, decimal}
use Rattle.tm_ports.specs.declared.status.Status.{Status}
use Rattle.tm_ports.specs.declared.status.Status.TheVariants.{Done, Words, BadSchedule, ReadFault, WriteFault, NoMemory, LinkFault, DiskFault, BadFrame, Budget, Damaged, Full}

-- the exit number
abbrev pub status_number : Status → ℕ
status_number Done = 0
status_number Words = 2
status_number (BadSchedule line) = 3
status_number ReadFault = 4
status_number WriteFault = 5
status_number NoMemory = 6
status_number LinkFault = 7
status_number DiskFault = 8
status_number (BadFrame at) = 9
status_number Budget = 10
status_number (Damaged at) = 11
status_number Full = 12

-- the text on standard error
abbrev pub status_text : Status → List ℕ
status_text Done = []
status_text Words = codes "taurus: words"
status_text (BadSchedule line) = codes "taurus: bad schedule at line " ++ decimal line
status_text ReadFault = codes "taurus: read fault"
status_text WriteFault = codes "taurus: write fault"
status_text NoMemory = codes "taurus: no memory"
status_text LinkFault = codes "taurus: link fault"
status_text DiskFault = codes "taurus: disk fault"
status_text (BadFrame at) = codes "taurus: bad frame at " ++ decimal at
status_text Budget = codes "taurus: budget"
status_text (Damaged at) = codes "taurus: damaged at " ++ decimal at
status_text Full = codes "taurus: full"
