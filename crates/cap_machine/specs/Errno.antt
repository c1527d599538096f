-- The errnos that the rules know (errno(2)).
use Rattle.std.specs.Prelude.{ℕ}

-- EBADF: there is no such descriptor
abbrev pub ebadf : ℕ
ebadf = 9

-- ENOTCAPABLE: a descriptor lacks rights
abbrev pub enotcapable : ℕ
enotcapable = 93

-- ECAPMODE: not permitted in capability mode
abbrev pub ecapmode : ℕ
ecapmode = 94
