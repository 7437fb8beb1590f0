-- Escapes in quoted texts.
use Rattle.std.specs.Prelude.{ℕ, Option, Some, None, ◌==◌, if◌then◌else◌}

-- what a byte stands for behind a backslash: `"` and `\` for themselves, `n` for LF, `t` for a tab, `r` for CR
abbrev pub unescape : ℕ → Option ℕ
unescape b =
    if b == 34 then Some 34
    else (if b == 92 then Some 92
    else (if b == 110 then Some 10
    else (if b == 116 then Some 9
    else (if b == 114 then Some 13
    else None))))
