use Rattle.chord_lexer.proofs.identifier.find_with.Goals as goal

pub returns-in-97 : goal.returns-in-97
returns-in-97 c = rw c.in-97.is c.find.ensures

pub returns-in-98 : goal.returns-in-98
returns-in-98 c = rw c.in-98.is c.find-in-98.ensures

pub returns-in-99 : goal.returns-in-99
returns-in-99 c = rw c.in-99.is c.find-in-99.ensures

pub returns-in-100 : goal.returns-in-100
returns-in-100 c = rw c.in-100.is c.find-in-100.ensures

pub returns-in-101 : goal.returns-in-101
returns-in-101 c = rw c.in-101.is c.find-in-101.ensures

pub returns-in-102 : goal.returns-in-102
returns-in-102 c = rw c.in-102.is c.find-in-102.ensures

pub returns-in-103 : goal.returns-in-103
returns-in-103 c = rw c.in-103.is c.find-in-103.ensures

pub returns-in-105 : goal.returns-in-105
returns-in-105 c = rw c.in-105.is c.find-in-105.ensures

pub returns-in-108 : goal.returns-in-108
returns-in-108 c = rw c.in-108.is c.find-in-108.ensures

pub returns-in-110 : goal.returns-in-110
returns-in-110 c = rw c.in-110.is c.find-in-110.ensures

pub returns-in-111 : goal.returns-in-111
returns-in-111 c = rw c.in-111.is c.find-in-111.ensures

pub returns-in-112 : goal.returns-in-112
returns-in-112 c = rw c.in-112.is c.find-in-112.ensures

pub returns-in-114 : goal.returns-in-114
returns-in-114 c = rw c.in-114.is c.find-in-114.ensures

pub returns-in-115 : goal.returns-in-115
returns-in-115 c = rw c.in-115.is c.find-in-115.ensures

pub returns-in-116 : goal.returns-in-116
returns-in-116 c = rw c.in-116.is c.find-in-116.ensures

pub returns-in-117 : goal.returns-in-117
returns-in-117 c = rw c.in-117.is c.find-in-117.ensures

pub returns-in-118 : goal.returns-in-118
returns-in-118 c = rw c.in-118.is c.find-in-118.ensures

pub returns-in-119 : goal.returns-in-119
returns-in-119 c = rw c.in-119.is c.find-in-119.ensures
